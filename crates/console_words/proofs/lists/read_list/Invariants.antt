-- What was stored and what is left of the word from each number on make the whole.
use Rattle.console_words.proofs.Attributes.{Unread}
use Rattle.console_words.proofs.lists.read_list.Given as goal

abbrev pub invariant-loop-n : goal.invariant-loop-n
invariant-loop-n l = Unread l.word l.initial.out l.out l.n l.at
