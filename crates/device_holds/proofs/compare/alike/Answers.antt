-- The library's equality is the test of the definition.
use mathlib.Core.Path.{◌∙◌}
use Rattle.device_holds.proofs.SameValues.{alike-pointwise}
use Rattle.device_holds.proofs.compare.alike.Goals as goal

pub returns : goal.returns
returns c = c.eq.ensures ∙ alike-pointwise _ _
