-- Each turn looks at the next due second: up to it no row stands.
use Prim.Native.Nat.{◌-◌}
use Rattle.device_store.specs.Sizes.{end}
use Rattle.plan_next.proofs.Seek.{Seeking}
use Rattle.plan_next.proofs.first_change.Given as goal

abbrev pub invariant-loop-v : goal.invariant-loop-v
invariant-loop-v l = Seeking l.d l.t l.v

abbrev pub decreases-loop-v : goal.decreases-loop-v
decreases-loop-v l = end - l.v.next
