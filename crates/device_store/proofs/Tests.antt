-- A test taken in the code, as the value that the definition tests.
use Prim.Native.Nat.{ℕ}
use mathlib.Core.Bool.{true, false, not}
use mathlib.Core.Path.{◌≡◌, sym, ◌∙◌}
use native.Mathlib.Decide.{dec_lt}
use native.Mathlib.Omega.{arith}
use lib.Dec.{ltb, leb}
use borrow.Author.Tests.{lt-ltb, le-ltb, le-leb, lt-leb, eq-eqb, ne_eqb}

pub ruleset tests = (lt-ltb, le-ltb, le-leb, lt-leb, eq-eqb, ne_eqb)

-- a call that says what a value is, and a test of that value
pub via : {A : Type 0} {r p v : A} → r ≡ p → r ≡ v → p ≡ v
via e f = sym e ∙ f

-- "not at most" is "more than"
pub ltb-not : (a b : ℕ) → ltb a b ≡ not (leb b a)
ltb-not a b = elim (dec_lt a b) [ yes h ↦ rw (lt-ltb a b h, lt-leb b a h) | no h ↦ rw (le-ltb a b (omega arith), le-leb b a (omega arith)) ]

-- no test is both taken and left
pub never : true ≡ false → ⊥
never e = let z : ◌≡◌ {A = ℕ} 0 1 = cc in omega arith
