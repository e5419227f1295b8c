-- A number goes by the range.
use borrow.Author.Rules.{rules}
use Rattle.wire_fields.proofs.RangeLaws.{number_tells}
use Rattle.wire_fields.proofs.ranges.is_number.Goals as goal

pub returns-in-0-clause-tells : goal.returns-in-0-clause-tells
returns-in-0-clause-tells c = number_tells _ _ _ _ (search rules)
