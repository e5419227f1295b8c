-- From candidate to candidate: no row stands before the one looked at.
use native.Mathlib.Omega.{arith}
use Rattle.device_store.proofs.Tests.{via}
use Rattle.device_holds.specs.Holds.{situation_of}
use Rattle.plan_plain.proofs.Next.{looking_start, looking_end, looking_found, looking_on, next-later}
use Rattle.plan_plain.proofs.rows.next_row.Goals as goal

pub loop-n-init : goal.loop-n-init
loop-n-init c = looking_start _ _ _ c.next_after-n.ensures

pub returns-else-unchanged : goal.returns-else-unchanged
returns-else-unchanged c =
    looking_found _ _ _ c.loop-n.invariant (omega arith) (via c.unchanged.ensures c.if-unchanged.false)

pub loop-n-smaller : goal.loop-n-smaller
loop-n-smaller c =
    omega (arith, c.next_after-n-in-loop-n.ensures, next-later (situation_of c.args.d.now) c.loop-n.n (omega arith))

pub loop-n-preserved : goal.loop-n-preserved
loop-n-preserved c =
    looking_on _ _ _ c.loop-n.invariant (omega arith) (via c.unchanged.ensures c.if-unchanged.true) _ c.next_after-n-in-loop-n.ensures

pub returns-after-loop-n : goal.returns-after-loop-n
returns-after-loop-n c = looking_end _ _ _ c.loop-n.invariant (omega arith)
