-- The pieces are the only ones that keep the laws. Assumes nothing.
use Prim.Native.Nat.{ℕ, ◌<◌}
use mathlib.Core.Path.{◌≡◌, refl, sym, ◌∙◌}
use mathlib.Core.Bool.{Bool, true, false, ◌&&◌, not}
use mathlib.Core.List.{List, [], ◌∷◌, ◌++◌}
use native.Mathlib.Omega.{arith}
use lib.ListN.{length, take, drop}
use lib.Seq.{length-take-le, take_at, drop_at}
use lib.Dec.{eqb}
use borrow.Author.Tests.{eqb-true, eq-eqb, not-true}
use Rattle.bench_records.proofs.Scans.{both}
use Rattle.rescue_walk.specs.Walk.{record_len, Piece, copied, passed, pass}
use Rattle.bench_laws.specs.Sound.{joined, filled, run_first, apart, none_starts, faithful}
use Rattle.bench_laws.specs.Laws.{Faithful, Only}
use Rattle.rescue_walk.proofs.Begins.{found, stays}
use Rattle.rescue_walk.proofs.Walks.{Walk, ended, skips, gives, walks, walk_is}
use Rattle.bench_laws.proofs.Sounds.{joined-walk}

and_both : (a b : Bool) → a ≡ true → b ≡ true → a && b ≡ true
and_both a b x y = rw (x, y)

faithful-pass : (x : ℕ) (ps : List Piece) → record_len (x ∷ joined ps) ≡ 0 → faithful ps ≡ true → faithful (pass x ps) ≡ true
unfolding faithful pass none_starts joined
faithful-pass x [] z f = rw (eq-eqb (record_len (x ∷ [])) 0 z)
faithful-pass x (copied r ∷ ps) z f = rw (eq-eqb (record_len (x ∷ (r ++ joined ps))) 0 z) f
faithful-pass x (passed r ∷ ps) z f = rw (eq-eqb (record_len (x ∷ (r ++ joined ps))) 0 z) f

filled-some : (r : List ℕ) → 0 < length r → filled r ≡ true
unfolding filled
filled-some [] l = absurd (omega arith)
filled-some (x ∷ r) l = refl

pub some-filled : (r : List ℕ) → filled r ≡ true → 0 < length r
unfolding filled
some-filled [] e = absurd (let z : ◌≡◌ {A = ℕ} 0 1 = cc in omega arith)
some-filled (x ∷ r) e = omega arith

faithful-walk : {s : List ℕ} {ps : List Piece} → Walk s ps → faithful ps ≡ true
unfolding faithful
faithful-walk ended = refl
faithful-walk (skips {x} {s} {ps} e w) = faithful-pass x ps (rw (joined-walk w) e) (faithful-walk w)
faithful-walk (gives {s} {ps} p w) =
    let f = found s p in
    let l = length-take-le (record_len s) s f.1 in
    let e : record_len (take (record_len s) s ++ joined ps) ≡ length (take (record_len s) s) = stays s (joined ps) p ∙ sym l in
    and_both (filled (take (record_len s) s)) _ (filled-some (take (record_len s) s) (omega arith))
    (and_both (eqb (record_len (take (record_len s) s ++ joined ps)) (length (take (record_len s) s))) _ (eq-eqb _ _ e) (faithful-walk w))

pub faithful-always : Faithful
faithful-always s = faithful-walk (walks s)

pass_alone : (x : ℕ) (ps : List Piece) → run_first ps ≡ false → pass x ps ≡ passed (x ∷ []) ∷ ps
unfolding pass run_first
pass_alone x [] e = refl
pass_alone x (copied r ∷ ps) e = refl
pass_alone x (passed r ∷ ps) e = absurd (let z : ◌≡◌ {A = ℕ} 0 1 = cc in omega arith)

pass-run : (x : ℕ) (r : List ℕ) (ps : List Piece) → pass x (passed r ∷ ps) ≡ passed (x ∷ r) ∷ ps
unfolding pass
pass-run x r ps = refl

run-walks : (r t : List ℕ) (ps : List Piece) → filled r ≡ true → none_starts r t ≡ true → run_first ps ≡ false → Walk t ps → Walk (r ++ t) (passed r ∷ ps)
unfolding none_starts filled
run-walks [] t ps f n a w = absurd (let z : ◌≡◌ {A = ℕ} 0 1 = cc in omega arith)
run-walks (x ∷ []) t ps f n a w =
    let b = both (eqb (record_len (x ∷ t)) 0) true n in
    rw (← pass_alone x ps a) (skips (eqb-true (record_len (x ∷ t)) 0 b.0) w)
run-walks (x ∷ (y ∷ r)) t ps f n a w =
    let b = both (eqb (record_len (x ∷ (y ∷ r) ++ t)) 0) (none_starts (y ∷ r) t) n in
    rw (← pass-run x (y ∷ r) ps) (skips (eqb-true (record_len (x ∷ (y ∷ r) ++ t)) 0 b.0) (run-walks (y ∷ r) t ps refl b.1 a w))

record_walks : (r t : List ℕ) (ps : List Piece) → filled r ≡ true → record_len (r ++ t) ≡ length r → Walk t ps → Walk (r ++ t) (copied r ∷ ps)
record_walks r t ps f e w =
    let l = some-filled r f in
    let x : take (record_len (r ++ t)) (r ++ t) ≡ r = take_at r t (record_len (r ++ t)) (sym e) in
    let y : drop (record_len (r ++ t)) (r ++ t) ≡ t = drop_at r t (record_len (r ++ t)) (sym e) in
    let z : Walk (r ++ t) (copied (take (record_len (r ++ t)) (r ++ t)) ∷ ps) = gives {s = r ++ t} {ps = ps} (omega arith) (rw y w) in
    rw x at z

only-walks : (ps : List Piece) → apart ps ≡ true → faithful ps ≡ true → Walk (joined ps) ps
unfolding apart faithful joined
only-walks [] a f = ended
only-walks (copied r ∷ ps) a f =
    let x = both (filled r) _ f in
    let y = both (eqb (record_len (r ++ joined ps)) (length r)) _ x.1 in
    record_walks r (joined ps) ps x.0 (eqb-true (record_len (r ++ joined ps)) (length r) y.0) (only-walks ps a y.1)
only-walks (passed r ∷ ps) a f =
    let x = both (filled r) _ a in
    let y = both (not (run_first ps)) _ x.1 in
    let z = both (none_starts r (joined ps)) _ f in
    run-walks r (joined ps) ps x.0 z.0 (not-true (run_first ps) y.0) (only-walks ps y.1 z.1)

pub only : Only
only ps a f = walk_is (only-walks ps a f)
