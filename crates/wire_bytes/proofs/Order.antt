-- Comparisons of numbers. Assumes nothing.
use Prim.Native.Nat.{ℕ, suc, ◌+◌, ◌-◌, ◌≤◌, ◌<◌}
use mathlib.Core.Path.{◌≡◌, refl, sym, ◌∙◌}
use mathlib.Core.Logic.{◌⊎◌, inl, inr, ⊎_elim}
use mathlib.Core.Bool.{Bool, true, false}
use native.Mathlib.Omega.{arith}
use lib.Dec.{ltb, leb}
use borrow.Author.Tests.{ltb-true, ltb-false, le-leb, lt-leb}

pub below : (a b : ℕ) → (a < b) ⊎ (b ≤ a)
below a b = go (ltb a b) refl
  where
    go : (t : Bool) → ltb a b ≡ t → (a < b) ⊎ (b ≤ a)
    go true e = inl (ltb-true a b e)
    go false e = inr (ltb-false a b e)

pub one_more : (n : ℕ) → (n ≡ 0 → ⊥) → n ≡ suc (n - 1)
one_more n nz = omega arith

pub no_room : (n p len : ℕ) → len < p → false ≡ leb (p + n) len
no_room n p len h = sym (lt-leb (p + n) len (omega arith))

-- a test without a sum that could overflow
pub room-test : (n p len : ℕ) → p ≤ len → leb n (len - p) ≡ leb (p + n) len
room-test n p len h = ⊎_elim
    (λ lt. lt-leb n (len - p) (omega arith) ∙ sym (lt-leb (p + n) len (omega arith)))
    (λ le. le-leb n (len - p) (omega arith) ∙ sym (le-leb (p + n) len (omega arith)))
    (below len (p + n))
