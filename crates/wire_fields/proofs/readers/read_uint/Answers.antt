-- The test, and the number that is there.
use Rattle.wire_fields.specs.KeyHeads.{UintReads}
use Rattle.wire_fields.specs.Seen.{uint_read}
use Rattle.wire_fields.proofs.Given.{then_some_is, gives}
use Rattle.wire_fields.proofs.readers.read_uint.Goals as goal

pub returns : goal.returns
unfolding UintReads uint_read
returns c =
    record {
      reads = gives _ _ _ _ c.is_uint.ensures.uint_reads _ c.then_some.ensures;
      value = rw (c.then_some.ensures, c.is_uint.ensures.value) (then_some_is _ _);
    }
