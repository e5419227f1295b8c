-- The control state from plain numbers. The contracts of the table cite none of this: it parts the work.
use Rattle.std.specs.Prelude.{ℕ, cond, not, ◌||◌, eqb, ℤ, pos}
use Rattle.std.specs.Int.Signed.{non_neg}
use Rattle.refusals.specs.States.{AUTONOMOUS, CONTROLLED, LIMITED, OVERRIDE}

-- the control state beside the limits a and b that are shown, some zone up; and with no value, no zone up
unfoldable pub state_up : ℕ → ℤ → ℤ → ℤ
state_up o a b = cond (not (eqb o 0)) (pos OVERRIDE) (cond (non_neg a || non_neg b) (pos LIMITED) (pos CONTROLLED))

unfoldable pub state_down : ℕ → ℤ
state_down o = cond (not (eqb o 0)) (pos OVERRIDE) (pos AUTONOMOUS)
