-- The end before, and one more, at most the largest word.
use Rattle.console_words.proofs.Digits.{start_behind}
use Rattle.console_words.proofs.spans.start_of.Goals as goal

pub returns-else-k-eq0 : goal.returns-else-k-eq0
returns-else-k-eq0 c = start_behind _ _ _ _ c.if-k-eq0.false c.end_of.ensures c.saturating_add.ensures
