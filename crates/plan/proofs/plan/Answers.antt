-- Whether there is room is known before anything is written; then the rows stand at the front of the slice.
use Prim.Native.Nat.{◌*◌, ◌≤◌}
use mathlib.Core.Path.{refl}
use borrow.Author.Tests.{leb-true, leb-false}
use lib.ListN.{length}
use Rattle.device_store.proofs.Tests.{via}
use Rattle.plan.specs.Plan.{row_size}
use Rattle.plan.proofs.Answers.{full_ends, ends}
use Rattle.plan.proofs.plan.Goals as goal

pub returns-then-has_room : goal.returns-then-has_room
returns-then-has_room c =
    let few : c.find.result * row_size ≤ length c.args.rows.now = rw c.find.ensures.value
    (leb-true _ _ (via c.has_room.ensures c.if-has_room.true)) in
    let both =
    ends c.args.d.now _ c.clock-t.ensures c.args.rows.now c.find.result c.find.ensures.value _ few
    c.find.ensures.out_after in
    record { value = both.0; rows_after = both.1 }

pub returns-else-has_room : goal.returns-else-has_room
returns-else-has_room c =
    let both =
    full_ends c.args.d.now _ c.clock-t.ensures c.args.rows.now _ refl
    (leb-false _ _ (via c.has_room.ensures c.if-has_room.false)) in
    record { value = both.0; rows_after = both.1 }
