-- The library's answers on a list are the definitions': membership, and strict ascent.
use Prim.Native.Nat.{ℕ}
use mathlib.Core.Bool.{Bool, true, false}
use mathlib.Core.Path.{◌≡◌, refl, sym, ◌∙◌}
use mathlib.Core.List.{List, [], ◌∷◌}
use native.Mathlib.Numerals.{add-one}
use lib.Dec.{eqb, ltb}
use borrow.Author.Tests.{ltb-true, lt-ltb, eqb-true, eqb-false, eq-eqb, ne_eqb}
use Rattle.std.specs.List.{list_any, IsAllAdjacentAnswer}
use Rattle.report.specs.Lists.{member, ascends}
use Rattle.report.specs.Statements.{Rising, Strict}
use Rattle.report.proofs.Rises.{strict}

either_swap : (x y : ℕ) → eqb x y ≡ eqb y x
either_swap x y = go (eqb y x) refl
  where
    go : (b : Bool) → eqb y x ≡ b → eqb x y ≡ b
    go true e = eq-eqb x y (sym (eqb-true y x e))
    go false e = ne_eqb x y (λ f. eqb-false y x e (sym f))

pub any_member : (n : ℕ) (ns : List ℕ) → list_any (λ y. eqb y n) ns ≡ member n ns
unfolding member
any_member n [] = refl
any_member n (x ∷ ns) = rw (either_swap x n, any_member n ns) refl

pub sorted-ascends : (ns : List ℕ) (r : Bool) → IsAllAdjacentAnswer (λ x y b. b ≡ ltb x y) ns r → r ≡ ascends ns
unfolding Strict Rising
sorted-ascends ns true a = sym ((strict ns).1 (λ k h. ltb-true _ _ (sym (rw add-one at (a k 0 (rw add-one h))))))
sorted-ascends ns false (k, h, e) = go (ascends ns) refl
  where
    go : (b : Bool) → ascends ns ≡ b → false ≡ b
    go true f = e 0 ∙ rw add-one (lt-ltb _ _ ((strict ns).0 f k (rw add-one at h)))
    go false f = refl
