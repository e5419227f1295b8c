-- What is left of the table makes the whole; its rows have 36 places.
use Prim.Native.Nat.{◌+◌, ◌*◌, ◌≤◌, ℕ}
use mathlib.Core.Path.{◌≡◌}
use mathlib.Core.Bool.{Bool}
use mathlib.Core.List.{List}
use lib.ListN.{drop}
use Rattle.measurement_table.specs.Table.{rows, places}
use Rattle.measurement_reader.specs.Walk.{Filled, rows_at}
use Rattle.measurement_reader.proofs.walk.rows_into.Given as goal

abbrev pub invariant-loop-i : goal.invariant-loop-i
invariant-loop-i l =
    (l.i ≤ 24) × (l.place + places (drop l.i rows) ≡ 36)
    × ((ok : Bool) (ws : List ℕ) → Filled (rows_at l.s 6 (drop l.i rows) l.left l.p) (2 * l.place) l.words ok ws → Filled (rows_at l.s 6 rows l.n l.at) 0 l.initial.words ok ws)
