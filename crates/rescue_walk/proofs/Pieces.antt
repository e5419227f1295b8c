-- The walk piece by piece, as the code goes. Assumes nothing.
use Rattle.std.specs.Prelude.{None, Some}
use Prim.Native.Nat.{ℕ, zero, suc, ◌+◌, ◌≤◌, ◌<◌}
use mathlib.Core.Path.{◌≡◌, refl, sym, ap, ◌∙◌}
use mathlib.Core.Bool.{Bool, true, false, cond}
use mathlib.Core.List.{List, [], ◌∷◌}
use native.Mathlib.Numerals.{add-one}
use native.Mathlib.Omega.{arith}
use lib.Dec.{eqb}
use lib.ListN.{length, get_or, take, drop, length-drop, drop_of_length-le}
use lib.Seq.{drop-cons, drop-drop}
use borrow.Author.Tests.{eqb-true, eqb-false, eq-eqb, ne_eqb}
use Rattle.rescue_walk.specs.declared.steps.Cursor.{Cursor}
use Rattle.rescue_walk.specs.Walk.{record_len, record_end, Piece, copied, passed, pass, walk, run_len}
use Rattle.rescue_walk.specs.Steps.{next_of}
use Rattle.rescue_walk.proofs.Begins.{found}
use Rattle.rescue_walk.proofs.Walks.{walk-record, walk-pass, walk_none}

pub pos : (m : ℕ) → (m ≡ 0 → ⊥) → 0 < m
pos zero f = absurd (f refl)
pos (suc m) f = omega arith

-- a record's end
module _ (s : List ℕ) (p : ℕ) where
  pub end_none : record_end s p ≡ None → record_len (drop p s) ≡ 0
  unfolding record_end
  end_none = go (eqb (record_len (drop p s)) 0) refl
    where
      go : (b : Bool) → eqb (record_len (drop p s)) 0 ≡ b → cond b None (Some (p + record_len (drop p s))) ≡ None → record_len (drop p s) ≡ 0
      go true e z = eqb-true (record_len (drop p s)) 0 e
      go false e z = absurd (let f : ◌≡◌ {A = ℕ} 0 1 = cc in omega arith)

  pub end-some : (n : ℕ) → record_end s p ≡ Some n → (0 < record_len (drop p s)) × (n ≡ p + record_len (drop p s))
  unfolding record_end
  end-some n = go (eqb (record_len (drop p s)) 0) refl
    where
      go : (b : Bool) → eqb (record_len (drop p s)) 0 ≡ b → cond b None (Some (p + record_len (drop p s))) ≡ Some n → (0 < record_len (drop p s)) × (n ≡ p + record_len (drop p s))
      go true e z = absurd (let f : ◌≡◌ {A = ℕ} 0 1 = cc in omega arith)
      go false e z = let f : n ≡ p + record_len (drop p s) = cc in (pos (record_len (drop p s)) (eqb-false (record_len (drop p s)) 0 e), f)

-- a run's length
pub run-stop : (s : List ℕ) → 0 < record_len s → run_len s ≡ 0
unfolding run_len
run-stop [] p = refl
run-stop (x ∷ s) p = rw (ne_eqb (record_len (x ∷ s)) 0 (λ z. omega arith))

pub run-pass : (x : ℕ) (s : List ℕ) → record_len (x ∷ s) ≡ 0 → run_len (x ∷ s) ≡ suc (run_len s)
unfolding run_len
run-pass x s e = rw (eq-eqb (record_len (x ∷ s)) 0 e)

pub run_none : run_len [] ≡ 0
unfolding run_len
run_none = refl

pub run-le : (s : List ℕ) → run_len s ≤ length s
run-le [] = omega (arith, run_none)
run-le (x ∷ s) = go (eqb (record_len (x ∷ s)) 0) refl (run-le s)
  where
    go : (b : Bool) → eqb (record_len (x ∷ s)) 0 ≡ b → run_len s ≤ length s → run_len (x ∷ s) ≤ suc (length s)
    go true e h = omega (arith, run-pass x s (eqb-true (record_len (x ∷ s)) 0 e))
    go false e h = omega (arith, run-stop (x ∷ s) (pos (record_len (x ∷ s)) (eqb-false (record_len (x ∷ s)) 0 e)))

-- a run and what is behind it
abbrev run_first : List ℕ → List Piece
run_first s = passed (take (run_len s) s) ∷ walk (drop (run_len s) s)

walk-run : (x : ℕ) (s : List ℕ) → record_len (x ∷ s) ≡ 0 → walk (x ∷ s) ≡ run_first (x ∷ s)
unfolding pass
walk-run x [] e = rw (walk-pass x [] e, run-pass x [] e, run_none, walk_none)
walk-run x (y ∷ s) e = go (eqb (record_len (y ∷ s)) 0) refl (walk-run y s)
  where
    go : (b : Bool) → eqb (record_len (y ∷ s)) 0 ≡ b → (record_len (y ∷ s) ≡ 0 → walk (y ∷ s) ≡ run_first (y ∷ s)) → walk (x ∷ (y ∷ s)) ≡ run_first (x ∷ (y ∷ s))
    go true q h = rw (walk-pass x (y ∷ s) e, run-pass x (y ∷ s) e) (ap (pass x) (h (eqb-true (record_len (y ∷ s)) 0 q)))
    go false q h =
        let p = pos (record_len (y ∷ s)) (eqb-false (record_len (y ∷ s)) 0 q) in
        let w = walk-record (y ∷ s) p in
        rw (walk-pass x (y ∷ s) e, run-pass x (y ∷ s) e, run-stop (y ∷ s) p) (ap (pass x) w ∙ ap (λ (ps : List Piece). passed (x ∷ []) ∷ ps) (sym w))

-- the run's loop
pub run_on : (s : List ℕ) (e : ℕ) → e < length s → record_len (drop e s) ≡ 0 → run_len (drop e s) ≡ suc (run_len (drop (e + 1) s))
run_on s e l z =
    let d = drop-cons s e 0 l in
    let k : record_len (get_or s e 0 ∷ drop (suc e) s) ≡ 0 = rw d at z in
    rw (add-one e, d) (run-pass (get_or s e 0) (drop (suc e) s) k)

pub run_end : (s : List ℕ) (e : ℕ) → length s ≤ e → run_len (drop e s) ≡ 0
run_end s e l = rw (drop_of_length-le s l) run_none

-- the next piece: what is left, the record or the run in front of it, and what stands behind that
abbrev pub left : List ℕ → Cursor → List ℕ
left s c = drop c.at s

abbrev pub record_here : List ℕ → Cursor → ℕ
record_here s c = record_len (left s c)

abbrev pub run_here : List ℕ → Cursor → ℕ
run_here s c = run_len (left s c)

abbrev pub record_bytes : List ℕ → Cursor → List ℕ
record_bytes s c = take (record_here s c) (left s c)

abbrev pub run_bytes : List ℕ → Cursor → List ℕ
run_bytes s c = take (run_here s c) (left s c)

abbrev pub behind_record : List ℕ → Cursor → List ℕ
behind_record s c = drop (c.at + record_here s c) s

abbrev pub behind_run : List ℕ → Cursor → List ℕ
behind_run s c = drop (c.at + run_here s c) s

abbrev run_next : List ℕ → Cursor → Cursor
run_next s c = record { at = c.at + run_here s c; kept = c.kept; runs = c.runs + 1 }

abbrev record_next : List ℕ → Cursor → Cursor
record_next s c = record { at = c.at + record_here s c; kept = c.kept + record_here s c; runs = c.runs }

module _ (s : List ℕ) (c : Cursor) where
  pub next-run : record_here s c ≡ 0 → next_of s c ≡ run_next s c
  unfolding next_of
  next-run e = rw (eq-eqb (record_here s c) 0 e)

  pub next-record : 0 < record_here s c → next_of s c ≡ record_next s c
  unfolding next_of
  next-record p = rw (ne_eqb (record_here s c) 0 (λ z. omega arith))

pub data Next (s : List ℕ) (c : Cursor) (n : Cursor) : Type 0 where
  a_run : record_here s c ≡ 0 → 0 < run_here s c → c.at + run_here s c ≤ length s
      → walk (left s c) ≡ passed (run_bytes s c) ∷ walk (behind_run s c)
      → n ≡ run_next s c → Next s c n
  a_record : 0 < record_here s c → c.at + record_here s c ≤ length s
      → walk (left s c) ≡ copied (record_bytes s c) ∷ walk (behind_record s c)
      → n ≡ record_next s c → Next s c n

run-walk : (t : List ℕ) → 0 < length t → record_len t ≡ 0 → (0 < run_len t) × (walk t ≡ run_first t)
run-walk [] l e = absurd (omega arith)
run-walk (x ∷ s) l e = (omega (arith, run-pass x s e), walk-run x s e)

pub nexts : (s : List ℕ) (c : Cursor) → c.at < length s → Next s c (next_of s c)
nexts s c l = go (eqb (record_here s c) 0) refl
  where
    go : (b : Bool) → eqb (record_here s c) 0 ≡ b → Next s c (next_of s c)
    go true e =
        let z = eqb-true (record_here s c) 0 e in
        let d = length-drop c.at s in
        let w = run-walk (left s c) (omega arith) z in
        let r = run-le (left s c) in
        a_run z w.0 (omega arith)
        (w.1 ∙ ap (λ (t : List ℕ). passed (run_bytes s c) ∷ walk t) (drop-drop (run_here s c) c.at s))
        (next-run s c z)
    go false e =
        let p = pos (record_here s c) (eqb-false (record_here s c) 0 e) in
        let d = length-drop c.at s in
        let f = found (left s c) p in
        a_record p (omega (arith, f.1))
        (walk-record (left s c) p ∙ ap (λ (t : List ℕ). copied (record_bytes s c) ∷ walk t) (drop-drop (record_here s c) c.at s))
        (next-record s c p)
