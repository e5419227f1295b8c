-- What was put and what is left from each pair on make the whole.
use lib.ListN.{drop}
use Prim.Native.Nat.{◌*◌, ◌-◌}
use Rattle.text.proofs.Pieces.{ToDo}
use Rattle.console_words.specs.Answers.{pairs_in}
use Rattle.console_words.proofs.print.put_pairs.Given as goal

abbrev pub invariant-loop-group : goal.invariant-loop-group
invariant-loop-group l =
    ToDo l.initial.out l.at (pairs_in l.n l.pairs) l.out l.p (pairs_in (l.n - l.group-index) (drop (2 * l.group-index) l.pairs))
