-- Every plan has room where the longest has; elsewhere the rows are counted.
use Prim.Native.Nat.{◌*◌}
use native.Mathlib.Omega.{arith}
use borrow.Author.Tests.{le-leb}
use lib.ListN.{length}
use Rattle.device_store.specs.Sizes.{slots, helds}
use Rattle.device_holds.specs.Holds.{situation_of}
use Rattle.plan.specs.Plan.{plan_of, row_size}
use Rattle.plan.proofs.Walk.{plan_of-few}
use Rattle.plan.proofs.has_room.Goals as goal

pub overflow_mul-result : goal.overflow_mul-result
overflow_mul-result c = omega (arith, c.count.ensures, plan_of-few c.args.d.now c.args.t)

pub returns-then-room-ge-PLAN : goal.returns-then-room-ge-PLAN
returns-then-room-ge-PLAN c =
    rw (
      le-leb (slots * helds * row_size) c.args.room c.if-room-ge-PLAN.true,
      le-leb (length (plan_of (situation_of c.args.d.now) c.args.t) * row_size) c.args.room (omega (arith, plan_of-few c.args.d.now c.args.t)),
    )
