-- The length and the payload behind it are the frame, where both fit.
use mathlib.Core.Path.{refl}
use Rattle.wire_output.proofs.Sends.{send_refused, send_whole}
use Rattle.wire_output.proofs.write_frame.Goals as goal

pub returns-then-has_room : goal.returns-then-has_room
returns-then-has_room c =
    let both =
    send_whole c.args.payload.now c.args.out.now _ _ c.has_room.ensures c.if-has_room.true _ _ c.put_u32.ensures.out_after
    c.put_bytes.ensures.out_after refl in
    record { value = both.0; out_after = both.1 }

pub returns : goal.returns
returns c =
    let both =
    send_refused c.args.payload.now c.args.out.now _ _ c.has_room.ensures c.if-has_room.false c.refused.ensures in
    record { value = both.0; out_after = both.1 }
