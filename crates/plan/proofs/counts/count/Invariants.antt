-- Each turn looks at the next due second: what is counted and what is left make the plan, as in the walk that writes.
use Prim.Native.Nat.{◌-◌}
use Rattle.device_store.specs.Sizes.{end}
use Rattle.plan.proofs.Find.{Counting}
use Rattle.plan.proofs.counts.count.Given as goal

abbrev pub invariant-loop-v : goal.invariant-loop-v
invariant-loop-v l = Counting l.d l.t l.n l.v

abbrev pub decreases-loop-v : goal.decreases-loop-v
decreases-loop-v l = end - l.v.next
