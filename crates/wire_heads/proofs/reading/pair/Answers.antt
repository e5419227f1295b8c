-- Two bytes are two halves of one byte each.
use Prim.Native.Nat.{◌+◌}
use Rattle.wire_bytes.proofs.NumberLaws.{number-one, number-halves}
use Rattle.wire_heads.proofs.reading.pair.Goals as goal

pub returns : goal.returns
returns c =
    number-halves c.args.s.now c.args.at 1 _ _ (number-one c.args.s.now c.args.at) (number-one c.args.s.now (c.args.at + 1))
