-- The test and what is made of the head are those of the range.
use Rattle.wire_fields.specs.Seen.{value_seen}
use Rattle.wire_fields.proofs.Given.{then_some_is, gives}
use Rattle.wire_fields.proofs.RangeLaws.{value_reads}
use Rattle.wire_fields.proofs.readers.read_value.Goals as goal

pub returns : goal.returns
unfolding value_seen
returns c =
    record {
      reads = gives _ _ _ _ (value_reads c.args.null c.args.k _ c.is_number.ensures.tells _ c.field_of.ensures) _ c.then_some.ensures;
      value = rw (c.then_some.ensures, c.is_number.ensures.value, c.field_of.ensures) (then_some_is _ _);
    }
