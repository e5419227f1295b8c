-- The test for room is the one of `writing_number`, and what is put is the payload.
use mathlib.Core.Path.{refl}
use Rattle.wire_output.proofs.Sends.{deliver_refused, deliver_whole}
use Rattle.wire_output.proofs.write_payload.Goals as goal

pub returns-then-has_room : goal.returns-then-has_room
returns-then-has_room c =
    let both =
    deliver_whole c.args.payload.now c.args.out.now _ _ c.has_room.ensures c.if-has_room.true _ c.put_bytes.ensures.out_after refl in
    record { value = both.0; out_after = both.1 }

pub returns : goal.returns
returns c =
    let both =
    deliver_refused c.args.payload.now c.args.out.now _ _ c.has_room.ensures c.if-has_room.false c.refused.ensures in
    record { value = both.0; out_after = both.1 }
