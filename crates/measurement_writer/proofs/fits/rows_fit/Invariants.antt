-- What is left of the rows makes the whole.
use Prim.Native.Nat.{◌+◌, ◌≤◌}
use mathlib.Core.Path.{◌≡◌}
use lib.ListN.{drop}
use Rattle.measurement_table.specs.Table.{rows, places}
use Rattle.measurement_table.specs.Cells.{rows_fit}
use Rattle.measurement_table.specs.Words.{held}
use Rattle.measurement_writer.proofs.FitWalk.{held_by}
use Rattle.measurement_writer.proofs.fits.rows_fit.Given as goal

abbrev pub invariant-loop-i : goal.invariant-loop-i
invariant-loop-i l =
    (l.i ≤ 24) × (l.place + places (drop l.i rows) ≡ 36) × (rows_fit (drop l.i rows) (held_by l.words (drop l.i rows) l.place) ≡ rows_fit rows (held l.words))
