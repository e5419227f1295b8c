-- What was put and what is left of the table from each row on make the whole.
use mathlib.Core.Path.{◌≡◌}
use Rattle.std.specs.Iterator.Adapters.{take_count, take_source}
use Rattle.std.specs.Slice.Iter.{chunks_rest, chunks_size}
use Rattle.kernel.specs.Door.{row_size}
use Rattle.bench_script.specs.Answers.{table_pieces}
use Rattle.text.proofs.Pieces.{ToDo}
use Rattle.bench_script.proofs.answers.put_rows.Given as goal

abbrev pub invariant-loop-row : goal.invariant-loop-row
invariant-loop-row l =
    ToDo l.initial.out l.at (table_pieces l.count l.rows) l.out l.p (table_pieces (take_count l.row-iterator) (chunks_rest (take_source l.row-iterator))) ×
    (chunks_size (take_source l.row-iterator) ≡ row_size)
