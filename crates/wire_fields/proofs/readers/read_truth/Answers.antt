-- The test, and which of the two is there.
use Rattle.wire_fields.specs.Seen.{truth_read}
use Rattle.wire_fields.proofs.Given.{then_some_is, gives}
use Rattle.wire_fields.proofs.readers.read_truth.Goals as goal

pub returns : goal.returns
unfolding truth_read
returns c =
    record {
      reads = gives _ _ _ _ c.is_truth.ensures.reads _ c.then_some.ensures;
      value = rw (c.then_some.ensures, c.is_truth.ensures.value) (then_some_is _ _);
    }
