-- One test says whether it is a number of the range, the major type of which sign.
use Rattle.wire_fields.proofs.Joined.{via}
use Rattle.measurement_reader.proofs.Fills.{number-out, number-uint, number-nint}
use Rattle.measurement_reader.proofs.cells.number_of.Goals as goal

pub returns-then-not-is_in : goal.returns-then-not-is_in
returns-then-not-is_in c = number-out _ _ _ (via c.is_in.ensures c.if-not-is_in.true)

pub returns-then-major-eq0 : goal.returns-then-major-eq0
returns-then-major-eq0 c = number-uint _ _ _ (via c.is_in.ensures c.if-not-is_in.false) c.if-major-eq0.true

pub returns : goal.returns
returns c = number-nint _ _ _ (via c.is_in.ensures c.if-not-is_in.false) c.if-major-eq0.false
