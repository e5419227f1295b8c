-- From candidate to candidate: no row stands before the one looked at.
use Prim.Native.Nat.{◌-◌}
use Rattle.device_store.specs.Sizes.{end}
use Rattle.device_holds.specs.Holds.{situation_of}
use Rattle.plan_plain.proofs.Next.{Looking}
use Rattle.plan_plain.proofs.rows.next_row.Given as goal

abbrev pub invariant-loop-n : goal.invariant-loop-n
invariant-loop-n l = Looking (situation_of l.d) l.t l.n

abbrev pub decreases-loop-n : goal.decreases-loop-n
decreases-loop-n l = end - l.n
