-- Each quantity goes by the smallest or by the precedence, and stands at one place among those of its kind.
use Prim.Native.Nat.{ℕ, ◌+◌, ◌-◌, ◌<◌, ◌≤◌}
use mathlib.Core.Bool.{Bool, true, false, ◌&&◌}
use mathlib.Core.Path.{◌≡◌, refl, sym}
use native.Mathlib.Decide.{dec_lt}
use native.Mathlib.Omega.{arith}
use borrow.Author.Tests.{lt-ltb, le-ltb, le-leb, lt-leb, ltb-true, ltb-false, leb-true}
use lib.Dec.{ltb, leb}
use Rattle.device_store.specs.Quantities.{helds, lowest_values, leading_setpoints, is_limit, is_setpoint, low_at, lead_at}
use Rattle.device_store.proofs.Tests.{never}

pub low_no_setpoint : (k : ℕ) → is_setpoint (low_at k) ≡ false
unfolding low_at
low_no_setpoint k =
    elim (dec_lt k 2) [
      | yes h ↦ rw (lt-ltb k 2 h, lt-leb 2 k h)
      | no h ↦ rw (le-ltb k 2 (omega arith), le-ltb (k + 2) 4 (omega arith)) (go (leb 2 (k + 2)))
    ]
  where
    go : (b : Bool) → (b && false) ≡ false
    go true = refl
    go false = refl

pub lead_setpoint : (k : ℕ) → k < leading_setpoints → is_setpoint (lead_at k) ≡ true
lead_setpoint k h = rw (le-leb 2 (lead_at k) (omega arith), lt-ltb (lead_at k) 4 (omega arith))

-- a setpoint stands behind the limits and before the currents
pub setpoint-place : (q : ℕ) → is_setpoint q ≡ true → (2 ≤ q) × (q < 4)
setpoint-place q = go (leb 2 q) (ltb q 4) refl refl
  where
    go : (a b : Bool) → leb 2 q ≡ a → ltb q 4 ≡ b → (a && b) ≡ true → (2 ≤ q) × (q < 4)
    go true true p r e = (leb-true 2 q p, ltb-true q 4 r)
    go true false p r e = absurd (never (sym e))
    go false b p r e = absurd (never (sym e))

pub setpoint-no_limit : (q : ℕ) → is_setpoint q ≡ true → is_limit q ≡ false
setpoint-no_limit q e = le-ltb q 2 (setpoint-place q e).0

pub limit-no_setpoint : (q : ℕ) → is_limit q ≡ true → is_setpoint q ≡ false
limit-no_setpoint q e = rw (lt-leb 2 q (ltb-true q 2 e))

-- where a quantity stands among those of its kind
pub limit-at : (q : ℕ) → q < 2 → low_at q ≡ q
unfolding low_at
limit-at q h = rw (lt-ltb q 2 h)

pub current-at : (q : ℕ) → 4 ≤ q → low_at (q - 2) ≡ q
unfolding low_at
current-at q h = rw (le-ltb (q - 2) 2 (omega arith)) (omega arith)

-- what is no setpoint, is a limit or lies past the setpoints
pub no_setpoint : (q : ℕ) → is_setpoint q ≡ false → 2 ≤ q → 4 ≤ q
no_setpoint q e h = ltb-false q 4 (rw (le-leb 2 q h) at e)

pub low_of : (q : ℕ) → q < helds → is_setpoint q ≡ false → (k : ℕ) × (k < lowest_values) × (low_at k ≡ q)
low_of q h e =
    elim (dec_lt q 2) [
      | yes l ↦ (q, omega arith, limit-at q l)
      | no l ↦ let far : 4 ≤ q = no_setpoint q e (omega arith) in (q - 2, omega arith, current-at q far)
    ]

pub lead_of : (q : ℕ) → is_setpoint q ≡ true → (k : ℕ) × (k < leading_setpoints) × (lead_at k ≡ q)
lead_of q e = let p : (2 ≤ q) × (q < 4) = setpoint-place q e in (q - 2, omega arith, omega arith)

pub low_small : (k : ℕ) → k < lowest_values → low_at k < helds
unfolding low_at
low_small k h =
    elim (dec_lt k 2) [
      | yes l ↦ rw (lt-ltb k 2 l) (omega arith)
      | no l ↦ rw (le-ltb k 2 (omega arith)) (omega arith)
    ]
