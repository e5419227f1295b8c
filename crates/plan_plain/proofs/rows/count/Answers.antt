-- From row to row: what is counted and what is left make the plan.
use mathlib.Core.Path.{◌∙◌}
use native.Mathlib.Omega.{arith}
use Rattle.device_holds.specs.Holds.{situation_of}
use Rattle.plan_plain.proofs.Onward.{counted_start, counted-room, counted-more, row-later}
use Rattle.plan_plain.proofs.rows.count.Goals as goal

pub loop-t-init : goal.loop-t-init
loop-t-init c = counted_start _ _ _ (c.next_row-t.ensures ∙ rw c.clock.ensures)

pub overflow_add-n : goal.overflow_add-n
overflow_add-n c = omega (arith, counted-room _ _ _ _ c.loop-t.invariant (omega arith))

pub loop-t-smaller : goal.loop-t-smaller
loop-t-smaller c =
    omega (arith, c.next_row-t-in-loop-t.ensures, row-later (situation_of c.args.d.now) c.loop-t.t (omega arith))

pub loop-t-preserved : goal.loop-t-preserved
loop-t-preserved c = counted-more _ _ _ _ c.loop-t.invariant (omega arith) _ c.next_row-t-in-loop-t.ensures
