-- A number at least 0.
use mathlib.Core.Path.{◌≡◌, refl}
use native.Mathlib.Omega.{arith}
use borrow.Author.Tests.{le-leb}
use lib.IntN.{ℤ, pos, negsuc}
use lib.Signed.{le_z, non_neg}

-- a number at least 0
pub is_natural : (z : ℤ) → le_z (pos 0) z ≡ non_neg z
is_natural (pos n) = le-leb 0 n (omega arith)
is_natural (negsuc n) = refl
