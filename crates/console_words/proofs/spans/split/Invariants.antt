-- Each end is stored where it fits, and the text left gives the ends left.
use Rattle.console_words.proofs.Ends.{Left}
use Rattle.console_words.proofs.spans.split.Given as goal

abbrev pub invariant-loop-n : goal.invariant-loop-n
invariant-loop-n l = Left l.line l.initial.ends l.ends l.n l.at
