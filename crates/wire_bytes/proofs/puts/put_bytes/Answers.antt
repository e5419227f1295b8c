-- The count is the length of what is taken, so the test for room is the one that `put_whole` makes, and the copy is what it puts.
use mathlib.Core.Path.{◌≡◌, ap, ◌∙◌}
use native.Mathlib.Omega.{arith}
use native.Mathlib.Numerals.{add-one}
use lib.ListN.{length, take}
use lib.Seq.{paste, paste-suc}
use Rattle.wire_bytes.proofs.PutLaws.{has_room, stored, not-stored, taken_length, copied}
use Rattle.wire_bytes.proofs.puts.put_bytes.Goals as goal

pub returns-then-not-has_room : goal.returns-then-not-has_room
returns-then-not-has_room c =
    let len = taken_length c.args.out.now c.args.from.now c.args.at c.args.n _ c.min-count.ensures in
    let both = not-stored c.args.out.now (take c.args.n c.args.from.now) c.args.at _ len _ c.has_room.ensures c.if-not-has_room.true in
    record { value = both.0; out_after = both.1 }

pub loop-i-preserved : goal.loop-i-preserved
loop-i-preserved c =
    let room = has_room c.args.at _ (length c.args.out.now) _ c.has_room.ensures c.if-not-has_room.false in
    rw (c.loop-i.invariant, add-one c.loop-i.i) (paste-suc c.args.out.now c.args.at c.args.from.now c.loop-i.i 0 (omega arith) (omega arith))

pub returns : goal.returns
returns c =
    let len = taken_length c.args.out.now c.args.from.now c.args.at c.args.n _ c.min-count.ensures in
    let room = has_room c.args.at _ (length c.args.out.now) _ c.has_room.ensures c.if-not-has_room.false in
    let end : c.loop-i.i ≡ c.min-count.result = omega arith in
    let all = copied c.args.out.now c.args.from.now c.args.at c.args.n _ c.min-count.ensures c.loop-i.out room (c.loop-i.invariant ∙ ap (paste c.args.out.now c.args.at c.args.from.now) end) in
    let both = stored c.args.out.now (take c.args.n c.args.from.now) c.args.at _ len _ c.has_room.ensures _ c.if-not-has_room.false all in
    record { value = both.0; out_after = both.1 }
