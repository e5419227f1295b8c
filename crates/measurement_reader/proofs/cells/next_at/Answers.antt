-- Behind the value that was found; else where the walk stopped.
use mathlib.Core.Path.{◌∙◌}
use Rattle.measurement_reader.proofs.Fills.{next_past, next_here}
use Rattle.measurement_reader.proofs.cells.next_at.Goals as goal

pub returns-then-there : goal.returns-then-there
returns-then-there c = c.unwrap_or.ensures ∙ next_past _ _ _ _ c.if-there.true _ c.check_item.ensures

pub returns : goal.returns
returns c = next_here _ _ _ _ c.if-there.false
