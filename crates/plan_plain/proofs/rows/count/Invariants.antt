-- From row to row: what is counted and what is left make the plan.
use Prim.Native.Nat.{◌-◌}
use Rattle.device_store.specs.Sizes.{end}
use Rattle.device_store.specs.Words.{clock_of}
use Rattle.device_holds.specs.Holds.{situation_of}
use Rattle.plan_plain.proofs.Onward.{Counted}
use Rattle.plan_plain.proofs.rows.count.Given as goal

abbrev pub invariant-loop-t : goal.invariant-loop-t
invariant-loop-t l = Counted (situation_of l.d) (clock_of l.d) l.n l.t

abbrev pub decreases-loop-t : goal.decreases-loop-t
decreases-loop-t l = end - l.t
