-- Signed numbers by their sign. Assumes nothing.
use Prim.Native.Nat.{ℕ}
use mathlib.Core.Path.{◌≡◌}
use mathlib.Core.Bool.{true, false}
use mathlib.Core.List.{◌∷◌}
use native.Mathlib.Omega.{arith}
use lib.IntN.{ℤ, pos, negsuc, nat_abs}
use lib.Signed.{lt_z}
use borrow.Author.Tests.{ltb-true}
use Rattle.text.specs.Text.{decimal, signed}

pub signed_below : (z : ℤ) (m : ℕ) → lt_z z (pos 0) ≡ true → m ≡ nat_abs z → 45 ∷ decimal m ≡ signed z
unfolding signed
signed_below (pos n) m e h = absurd (omega (arith, ltb-true n 0 e))
signed_below (negsuc n) m e h = rw h

pub signed_above : (z : ℤ) (m : ℕ) → lt_z z (pos 0) ≡ false → m ≡ nat_abs z → decimal m ≡ signed z
unfolding signed
signed_above (pos n) m e h = rw h
signed_above (negsuc n) m e h = absurd (let b : ◌≡◌ {A = ℕ} 0 1 = cc in omega arith)
