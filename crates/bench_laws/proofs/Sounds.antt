-- The laws of the walk. Assumes nothing.
use Prim.Native.Nat.{ℕ, zero, suc, ◌≤◌, ◌<◌}
use mathlib.Core.Path.{◌≡◌, refl, sym, ap, ◌∙◌}
use mathlib.Core.Bool.{Bool, true, false, cond}
use mathlib.Core.List.{List, [], ◌∷◌, ◌++◌}
use native.Mathlib.Omega.{arith}
use lib.ListN.{length, take, drop, length-drop, take-append-drop}
use lib.Seq.{length-take-le, drop_at}
use lib.Dec.{eqb}
use borrow.Author.Tests.{eqb-false, ne_eqb}
use Rattle.bench_records.proofs.Scans.{both}
use Rattle.rescue_walk.specs.Walk.{record_len, Piece, copied, passed, pass, walk, kept, runs_from, rescued, runs}
use Rattle.bench_laws.specs.Sound.{joined, filled, run_first, apart, reads_in, sound}
use Rattle.bench_laws.specs.Laws.{MakeUp, Longest, ReadsOn, Unchanged, Once}
use Rattle.rescue_walk.proofs.Begins.{found, stays}
use Rattle.rescue_walk.proofs.Rooms.{kept-pass}
use Rattle.rescue_walk.proofs.Walks.{Walk, ended, skips, gives, walks, walk-record, walk_none}

-- the pieces make up the script
joined-pass : (x : ℕ) (ps : List Piece) → joined (pass x ps) ≡ x ∷ joined ps
unfolding joined pass
joined-pass x [] = refl
joined-pass x (copied r ∷ ps) = refl
joined-pass x (passed r ∷ ps) = refl

pub joined-walk : {s : List ℕ} {ps : List Piece} → Walk s ps → joined ps ≡ s
unfolding joined
joined-walk ended = refl
joined-walk (skips {x} {s} {ps} e w) = joined-pass x ps ∙ ap (λ (t : List ℕ). x ∷ t) (joined-walk w)
joined-walk (gives {s} {ps} p w) = ap (λ (t : List ℕ). take (record_len s) s ++ t) (joined-walk w) ∙ take-append-drop (record_len s) s

pub make_up : MakeUp
make_up s = joined-walk (walks s)

-- no run is empty, none touches another
apart-pass : (x : ℕ) (ps : List Piece) → apart ps ≡ true → apart (pass x ps) ≡ true
unfolding apart pass filled run_first
apart-pass x [] e = refl
apart-pass x (copied r ∷ ps) e = e
apart-pass x (passed r ∷ ps) e = (both (filled r) _ e).1

apart-walk : {s : List ℕ} {ps : List Piece} → Walk s ps → apart ps ≡ true
unfolding apart
apart-walk ended = refl
apart-walk (skips {x} {s} {ps} e w) = apart-pass x ps (apart-walk w)
apart-walk (gives p w) = apart-walk w

pub longest : Longest
longest s = apart-walk (walks s)

-- read record after record
data Reads : List ℕ → Type 0 where
  done : Reads []
  more : {s : List ℕ} → 0 < record_len s → Reads (drop (record_len s) s) → Reads s

more_front : (s t : List ℕ) → 0 < record_len s → Reads t → Reads (take (record_len s) s ++ t)
more_front s t p r =
    let f = found s p in
    let e = stays s t p in
    let d : drop (record_len (take (record_len s) s ++ t)) (take (record_len s) s ++ t) ≡ t = drop_at (take (record_len s) s) t _ (length-take-le (record_len s) s f.1 ∙ sym e) in
    more {s = take (record_len s) s ++ t} (omega arith) (rw d r)

kept-reads : {s : List ℕ} {ps : List Piece} → Walk s ps → Reads (kept ps)
unfolding kept
kept-reads ended = done
kept-reads (skips {x} {s} {ps} e w) = rw (kept-pass x ps) (kept-reads w)
kept-reads (gives {s} {ps} p w) = more_front s (kept ps) p (kept-reads w)

read_record : (n : ℕ) (s : List ℕ) → 0 < record_len s → reads_in (suc n) s ≡ reads_in n (drop (record_len s) s)
unfolding reads_in
read_record n [] p = absurd (let f = found [] p in omega (arith, f.0, f.1))
read_record n (x ∷ s) p = rw (ne_eqb (record_len (x ∷ s)) 0 (λ z. omega arith))

reads_in_lem : {s : List ℕ} → Reads s → (n : ℕ) → length s ≤ n → reads_in n s ≡ true
unfolding reads_in
reads_in_lem done zero l = refl
reads_in_lem done (suc n) l = refl
reads_in_lem (more {s} p r) zero l = absurd (let f = found s p in omega (arith, f.0, f.1))
reads_in_lem (more {s} p r) (suc n) l =
    let d = length-drop (record_len s) s in
    let f = found s p in
    read_record n s p ∙ reads_in_lem r n (omega (arith, f.0, f.1))

pub reads_on : ReadsOn
unfolding sound rescued
reads_on s = reads_in_lem (kept-reads (walks s)) (length (kept (walk s))) (omega arith)

-- a sound script
in_reads : (n : ℕ) (s : List ℕ) → reads_in n s ≡ true → Reads s
unfolding reads_in
in_reads zero [] e = done
in_reads zero (x ∷ s) e = absurd (let z : ◌≡◌ {A = ℕ} 0 1 = cc in omega arith)
in_reads (suc n) [] e = done
in_reads (suc n) (x ∷ s) e = go (eqb (record_len (x ∷ s)) 0) refl e (in_reads n (drop (record_len (x ∷ s)) (x ∷ s)))
  where
    pos : (m : ℕ) → (m ≡ 0 → ⊥) → 0 < m
    pos zero f = absurd (f refl)
    pos (suc m) f = omega arith

    go :
        (b : Bool) → eqb (record_len (x ∷ s)) 0 ≡ b → cond b false (reads_in n (drop (record_len (x ∷ s)) (x ∷ s))) ≡ true
        → (reads_in n (drop (record_len (x ∷ s)) (x ∷ s)) ≡ true → Reads (drop (record_len (x ∷ s)) (x ∷ s))) → Reads (x ∷ s)
    go true q e h = absurd (let z : ◌≡◌ {A = ℕ} 0 1 = cc in omega arith)
    go false q e h = more (pos (record_len (x ∷ s)) (eqb-false (record_len (x ∷ s)) 0 q)) (h e)

kept-all : {s : List ℕ} → Reads s → kept (walk s) ≡ s
unfolding kept
kept-all done = rw walk_none
kept-all (more {s} p r) = rw (walk-record s p) (ap (λ (t : List ℕ). take (record_len s) s ++ t) (kept-all r) ∙ take-append-drop (record_len s) s)

runs_none : {s : List ℕ} → Reads s → (p : ℕ) → runs_from p (walk s) ≡ []
unfolding runs_from
runs_none done p = rw walk_none
runs_none (more {s} q r) p = rw (walk-record s q) (runs_none r _)

pub unchanged : Unchanged
unfolding sound rescued runs
unchanged s e = let r = in_reads (length s) s e in (kept-all r, runs_none r 0)

pub once : Once
once s = unchanged (rescued s) (reads_on s)
