-- What is left to put makes the whole.
use Prim.Native.Nat.{◌+◌, ◌*◌, ◌≤◌, ℕ}
use mathlib.Core.Path.{◌≡◌}
use mathlib.Core.List.{List}
use lib.ListN.{drop, length}
use Rattle.wire_cbor.specs.Item.{encode_pairs}
use Rattle.wire_fields.specs.Fields.{present}
use Rattle.measurement_table.specs.Table.{rows, places}
use Rattle.measurement_table.specs.Cells.{fields_of}
use Rattle.measurement_table.specs.Words.{held}
use Rattle.measurement_writer.specs.Room.{place_room, rows_room, PutsShort}
use Rattle.measurement_writer.proofs.FitWalk.{held_by}
use Rattle.measurement_writer.proofs.puts.put_rows.Given as goal

abbrev pub invariant-loop-i : goal.invariant-loop-i
invariant-loop-i l =
    (l.i ≤ 24) × (l.place + places (drop l.i rows) ≡ 36) × (length l.out ≡ length l.initial.out)
    × ((t : List ℕ) (q : ℕ) → PutsShort l.out l.p (encode_pairs (present (fields_of (drop l.i rows) (held_by l.words (drop l.i rows) l.place))))
    (place_room * places (drop l.i rows)) t q
    → PutsShort l.initial.out l.at (encode_pairs (present (fields_of rows (held l.words)))) rows_room t q)
