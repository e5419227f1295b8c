-- What is left of the marks makes the whole.
use Prim.Native.Nat.{◌-◌, ◌≤◌}
use mathlib.Core.Path.{◌≡◌}
use Rattle.measurement_table.specs.Words.{marks_fit}
use Rattle.measurement_writer.proofs.fits.marks_fit.Given as goal

abbrev pub invariant-loop-i : goal.invariant-loop-i
invariant-loop-i l = (l.i ≤ 36) × (marks_fit l.words (36 - l.i) l.i ≡ marks_fit l.words 36 0)
