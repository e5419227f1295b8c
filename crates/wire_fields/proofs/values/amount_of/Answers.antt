-- The test is the one of the definition.
use mathlib.Core.Path.{◌∙◌}
use Rattle.wire_fields.specs.Values.{amount_of}
use Rattle.wire_fields.proofs.Given.{then_some_is}
use Rattle.wire_fields.proofs.values.amount_of.Goals as goal

pub returns : goal.returns
unfolding amount_of
returns c = c.then_some.ensures ∙ then_some_is _ _
