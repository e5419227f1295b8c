-- What is left to blank makes the whole.
use Prim.Native.Nat.{◌+◌, ◌*◌, ◌-◌, ◌≤◌}
use mathlib.Core.Path.{◌≡◌}
use lib.Seq.{sets}
use Rattle.measurement_table.specs.Cells.{blanks}
use Rattle.measurement_table.specs.Words.{flat}
use Rattle.measurement_reader.proofs.walk.put_blanks.Given as goal

abbrev pub invariant-loop-i : goal.invariant-loop-i
invariant-loop-i l =
    (l.i ≤ l.n) × (sets l.words (2 * (l.at + l.i)) (flat (blanks (l.n - l.i))) ≡ sets l.initial.words (2 * l.at) (flat (blanks l.n)))
