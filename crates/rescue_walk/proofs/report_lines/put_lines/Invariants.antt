-- What was put and what is left from each run on make the whole.
use lib.ListN.{drop}
use Prim.Native.Nat.{◌*◌}
use Rattle.text.proofs.Pieces.{ToDo}
use Rattle.rescue_walk.specs.Lines.{lines_in}
use Rattle.rescue_walk.proofs.report_lines.put_lines.Given as goal

abbrev pub invariant-loop-offset : goal.invariant-loop-offset
invariant-loop-offset l = ToDo l.initial.out l.at (lines_in l.report) l.out l.p (lines_in (drop (2 * l.offset-index) l.report))
