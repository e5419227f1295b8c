-- What is left to read makes the whole; a pair that is left at the end is a phase above the last.
use Prim.Native.Nat.{◌+◌, ◌*◌, ◌-◌, ◌≤◌, ℕ}
use mathlib.Core.Bool.{Bool}
use mathlib.Core.List.{List}
use Rattle.measurement_reader.specs.Walk.{Filled, cells_at}
use Rattle.measurement_reader.proofs.walk.cells_into.Given as goal

abbrev pub invariant-loop-k : goal.invariant-loop-k
invariant-loop-k l =
    (l.k ≤ l.width)
    × ((ok : Bool) (ws : List ℕ) → Filled (cells_at l.s 6 l.range (l.width - l.k) l.k l.left l.p) (2 * (l.place + l.k)) l.words ok ws → Filled
    (cells_at l.s 6 l.range l.width 0 l.n l.at) (2 * l.place) l.initial.words ok ws)
