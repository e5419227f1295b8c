-- The test of strict ascent, which carries the least number that may follow, says that each number is below the next.
use Prim.Native.Nat.{ℕ, zero, suc, ◌+◌, ◌<◌, ◌≤◌}
use mathlib.Core.Bool.{true}
use mathlib.Core.Path.{◌≡◌, refl}
use mathlib.Core.List.{List, [], ◌∷◌}
use native.Mathlib.Nat.{not-suc-le-zero, le_of_suc-le-suc}
use native.Mathlib.Omega.{arith}
use lib.Dec.{leb}
use lib.ListN.{length, get_or}
use borrow.Author.Tests.{leb-true, le-leb}
use Rattle.report.specs.Lists.{ascends_from}
use Rattle.report.specs.Statements.{Rising, Strict}
use Rattle.report.proofs.Bools.{and_left, and_right}

rises : (least : ℕ) (ns : List ℕ) → ascends_from least ns ≡ true → (k : ℕ) → suc k < length ns → get_or ns k 0 < get_or ns (suc k) 0
unfolding ascends_from
rises least [] e k h = absurd (not-suc-le-zero h)
rises least (x ∷ []) e k h = absurd (not-suc-le-zero (le_of_suc-le-suc h))
rises least (x ∷ y ∷ ns) e zero h =
    omega (arith, leb-true (x + 1) y (and_left _ (ascends_from (y + 1) ns) (and_right (leb least x) _ e)))
rises least (x ∷ y ∷ ns) e (suc k) h = rises (x + 1) (y ∷ ns) (and_right (leb least x) _ e) k (le_of_suc-le-suc h)

ascent : (least x : ℕ) (ns : List ℕ) → least ≤ x → ((k : ℕ) → suc k < suc (length ns) → get_or (x ∷ ns) k 0 < get_or (x ∷ ns) (suc k) 0)
    → ascends_from least (x ∷ ns) ≡ true
unfolding ascends_from
ascent least x [] h r = rw (le-leb least x h)
ascent least x (y ∷ ns) h r =
    let above : x < y = r 0 (omega arith) in
    rw (le-leb least x h) (ascent (x + 1) y ns (omega arith) (λ k b. r (suc k) (omega arith)))

pub strict : Strict
unfolding Strict Rising ascends_from
strict [] = ((λ e. rises 0 [] e), λ r. refl)
strict (x ∷ ns) = ((λ e. rises 0 (x ∷ ns) e), λ r. ascent 0 x ns (omega arith) r)
