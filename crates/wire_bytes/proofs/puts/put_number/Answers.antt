-- The test for room is the one that `put_whole` makes. From the last byte to the first, what is left to put makes the whole.
use Prim.Native.Nat.{◌-◌}
use mathlib.Core.Path.{◌≡◌, sym, ◌∙◌}
use native.Mathlib.Omega.{arith}
use Rattle.wire_bytes.specs.Bytes.{bytes_of}
use Rattle.wire_bytes.proofs.NumberLaws.{bytes-length}
use Rattle.wire_bytes.proofs.PutLaws.{stored, not-stored, put_last-byte, put-nothing}
use Rattle.wire_bytes.proofs.puts.put_number.Goals as goal

pub returns-then-not-has_room : goal.returns-then-not-has_room
returns-then-not-has_room g c =
    let len = sym (bytes-length g.row.W c.args.v) in
    let both = not-stored c.args.out.now (bytes_of g.row.W c.args.v) c.args.at _ len _ c.has_room.ensures c.if-not-has_room.true in
    record { value = both.0; out_after = both.1 }

pub loop-i-preserved : goal.loop-i-preserved
loop-i-preserved g c = put_last-byte c.loop-i.out c.args.at c.loop-i.i (c.loop-i.i - 1) c.loop-i.rest (omega arith) ∙ c.loop-i.invariant

pub returns : goal.returns
returns g c =
    let len = sym (bytes-length g.row.W c.args.v) in
    let none : c.loop-i.i ≡ 0 = omega arith in
    let all = put-nothing c.loop-i.out c.args.at c.loop-i.rest ∙ rw none at c.loop-i.invariant in
    let both = stored c.args.out.now (bytes_of g.row.W c.args.v) c.args.at _ len _ c.has_room.ensures _ c.if-not-has_room.false all in
    record { value = both.0; out_after = both.1 }
