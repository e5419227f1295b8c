-- What was put and what is left of the row from each number on make the whole.
use lib.ListN.{length, drop}
use Prim.Native.Nat.{◌≤◌}
use Rattle.bench_script.specs.Answers.{row_pieces}
use Rattle.text.proofs.Pieces.{ToDo}
use Rattle.bench_script.proofs.answers.put_row.Given as goal

abbrev pub invariant-loop-i : goal.invariant-loop-i
invariant-loop-i l =
    ToDo l.initial.out l.at (row_pieces l.row) l.out l.p (row_pieces (drop l.i l.row)) × (l.i ≤ length l.row)
