-- Each turn looks at the next due second: what is written and what is left make the plan.
use Prim.Native.Nat.{◌-◌}
use Rattle.device_store.specs.Sizes.{end}
use Rattle.plan.proofs.Find.{Finding}
use Rattle.plan.proofs.rows.find.Given as goal

abbrev pub invariant-loop-v : goal.invariant-loop-v
invariant-loop-v l = Finding l.d l.t l.initial.out l.out l.count l.v

abbrev pub decreases-loop-v : goal.decreases-loop-v
decreases-loop-v l = end - l.v.next
