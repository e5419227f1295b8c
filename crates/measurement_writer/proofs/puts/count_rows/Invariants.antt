-- What is counted and what is left make the whole.
use Prim.Native.Nat.{◌+◌, ◌≤◌}
use mathlib.Core.Path.{◌≡◌}
use lib.ListN.{drop}
use Rattle.wire_cbor.specs.Item.{count_pairs}
use Rattle.wire_fields.specs.Fields.{present}
use Rattle.measurement_table.specs.Table.{rows, places}
use Rattle.measurement_table.specs.Cells.{fields_of}
use Rattle.measurement_table.specs.Words.{held}
use Rattle.measurement_writer.proofs.FitWalk.{held_by}
use Rattle.measurement_writer.proofs.puts.count_rows.Given as goal

abbrev pub invariant-loop-i : goal.invariant-loop-i
invariant-loop-i l =
    (l.i ≤ 24) × (l.place + places (drop l.i rows) ≡ 36) × (l.r ≤ l.i)
    × (l.r + count_pairs (present (fields_of (drop l.i rows) (held_by l.words (drop l.i rows) l.place))) ≡ count_pairs (present (fields_of rows (held l.words))))
