-- The smaller of two numbers is that in either order. Assumes nothing.
use Prim.Native.Nat.{ℕ, ◌≤◌, min}
use mathlib.Core.Path.{◌≡◌}
use native.Mathlib.Decide.{dec_lt}
use native.Mathlib.Omega.{arith}
use native.Mathlib.Nat.{min-eq_left, min-eq_right}
use borrow.Author.Tests.{lt-ltb, le-ltb}
use Rattle.device_store.specs.Smaller.{lesser}

-- of two numbers the smaller, in either order
pub lesser-swap : (a b : ℕ) → lesser a b ≡ lesser b a
unfolding lesser
lesser-swap a b =
    elim (dec_lt a b) [
      | yes h ↦ rw (lt-ltb a b h, le-ltb b a (omega arith))
      | no h ↦ elim (dec_lt b a) [
        | yes k ↦ rw (lt-ltb b a k, le-ltb a b (omega arith))
        | no k ↦ let e : a ≡ b = omega arith in rw e
      ]
    ]

-- it is the library's minimum
pub lesser-min : (a b : ℕ) → lesser a b ≡ min a b
unfolding lesser
lesser-min a b =
    elim (dec_lt a b) [
      | yes h ↦ let k : a ≤ b = omega arith in rw (lt-ltb a b h, min-eq_left k)
      | no h ↦ let k : b ≤ a = omega arith in rw (le-ltb a b k, min-eq_right k)
    ]

pub ruleset minimum = (lesser-min)
