-- What was put and what is left of the list from each number on make the whole.
use lib.ListN.{drop}
use Rattle.text.proofs.Pieces.{ToDo}
use Rattle.console_words.specs.Answers.{list_pieces}
use Rattle.console_words.proofs.Written.{all_pieces}
use Rattle.console_words.proofs.print.put_list.Given as goal

abbrev pub invariant-loop-x : goal.invariant-loop-x
invariant-loop-x l = ToDo l.initial.out l.at (list_pieces l.n l.list) l.out l.p (all_pieces (drop l.x-index l.shown))
