-- The test, and the number that is there or not.
use Rattle.wire_fields.specs.KeyHeads.{UintReads}
use Rattle.wire_fields.specs.Seen.{amount_read}
use Rattle.wire_fields.proofs.Given.{then_some_is, gives}
use Rattle.wire_fields.proofs.readers.read_amount.Goals as goal

pub returns : goal.returns
unfolding UintReads amount_read
returns c =
    record {
      reads = gives _ _ _ _ (rw (← c.amount_of.ensures) at c.is_uint.ensures.uint_reads) _ c.then_some.ensures;
      value = rw (c.then_some.ensures, c.is_uint.ensures.value, c.amount_of.ensures) (then_some_is _ _);
    }
