-- The library's comparison is the definition.
use mathlib.Core.Path.{◌∙◌}
use Rattle.console_words.proofs.Cuts.{pointwise_same}
use Rattle.console_words.proofs.spans.same.Goals as goal

pub returns : goal.returns
returns c = c.eq.ensures ∙ pointwise_same _ _
