-- Signed numbers as they are written: n, and -1 - n. Assumes nothing.
use Prim.Native.Nat.{ℕ, zero, suc, ◌<◌, ◌^◌}
use native.Mathlib.Nat.{zero-add}
use mathlib.Core.Path.{◌≡◌, refl, sym, ap, subst, ◌∙◌}
use mathlib.Core.Bool.{true, false}
use native.Mathlib.Omega.{arith}
use lib.Dec.{T}
use lib.IntN.{ℤ, pos, negsuc, nat_abs, ◌-ℤ◌}
use lib.Signed.{lt_z, non_neg}
use borrow.Author.Tests.{ltb-true, le-ltb}
use mir.Val.{Fits, SFits, to_z, of_z}
use mir.ValLaws.{to_z-of_z}
use mir.Syntax.{w64}
use Rattle.wire_cbor.specs.Item.{Item}
use Rattle.wire_fields.specs.Laws.{MinusOneMinus}
use Rattle.wire_fields.specs.Fields.{int_item}
use Rattle.wire_fields.proofs.Joined.{no_both}

-- z as 64 bits, and back
abbrev pub again : ℤ → ℤ
again z = to_z w64 (of_z w64 z)

pub minus_one : (n : ℕ) → negsuc n ≡ negsuc 0 -ℤ pos n
minus_one zero = refl
minus_one (suc n) = ap (λ (k : ℕ). negsuc (suc k)) (sym (zero-add n))

pub minus_one-minus : MinusOneMinus
minus_one-minus n = minus_one n

minus_negative : (n : ℕ) → negsuc 0 -ℤ negsuc n ≡ pos n
minus_negative n = rw (le-ltb (suc n) 1 (omega arith)) (ap pos (omega arith))

-- what is below 0 is -1 - n
below_zero : (z : ℤ) → SFits w64 z → lt_z z (pos 0) ≡ true → (n : ℕ) × (z ≡ negsuc n) × (n < 2 ^ 63)
below_zero (pos n) f e = absurd (let x = ltb-true n 0 e in omega arith)
below_zero (negsuc n) f e = (n, refl, f.sfits)

not-below : (z : ℤ) → SFits w64 z → lt_z z (pos 0) ≡ false → (n : ℕ) × (z ≡ pos n) × (n < 2 ^ 63)
not-below (pos n) f e = (n, refl, f.sfits)
not-below (negsuc n) f e = absurd (no_both e)

module _ (z : ℤ) (f : SFits w64 z) where
  module _ (e : lt_z (again z) (pos 0) ≡ true) where
    parts : (n : ℕ) × (z ≡ negsuc n) × (n < 2 ^ 63)
    parts = below_zero z f (subst (λ (x : ℤ). lt_z x (pos 0) ≡ true) (to_z-of_z w64 z f) e)

    minus : negsuc 0 -ℤ again z ≡ pos parts.0
    minus = ap (λ (x : ℤ). negsuc 0 -ℤ x) (to_z-of_z w64 z f ∙ parts.1) ∙ minus_negative parts.0

    minus_again : again (negsuc 0 -ℤ again z) ≡ pos parts.0
    minus_again = ap again minus ∙ to_z-of_z w64 (pos parts.0) (record { sfits = parts.2 })

    pub minus_fits : SFits w64 (negsuc 0 -ℤ again z)
    minus_fits = subst (λ (x : ℤ). SFits w64 x) (sym minus) (record { sfits = parts.2 })

    pub minus_cast : T (non_neg (again (negsuc 0 -ℤ again z))) × Fits w64 (nat_abs (again (negsuc 0 -ℤ again z)))
    minus_cast = subst (λ (x : ℤ). T (non_neg x) × Fits w64 (nat_abs x)) (sym minus_again) (tt, record { fits = omega (arith, parts.2) })

    pub minus_item : int_item z ≡ Item.nint (nat_abs (again (negsuc 0 -ℤ again z)))
    minus_item = ap int_item parts.1 ∙ ap (λ (x : ℤ). Item.nint (nat_abs x)) (sym minus_again)

  module _ (e : lt_z (again z) (pos 0) ≡ false) where
    plain : (n : ℕ) × (z ≡ pos n) × (n < 2 ^ 63)
    plain = not-below z f (subst (λ (x : ℤ). lt_z x (pos 0) ≡ false) (to_z-of_z w64 z f) e)

    plain-again : again z ≡ pos plain.0
    plain-again = to_z-of_z w64 z f ∙ plain.1

    pub plain-cast : T (non_neg (again z)) × Fits w64 (nat_abs (again z))
    plain-cast = subst (λ (x : ℤ). T (non_neg x) × Fits w64 (nat_abs x)) (sym plain-again) (tt, record { fits = omega (arith, plain.2) })

    pub plain-item : int_item z ≡ Item.uint (nat_abs (again z))
    plain-item = ap int_item plain.1 ∙ ap (λ (x : ℤ). Item.uint (nat_abs x)) (sym plain-again)
