-- What is left to read makes the whole; a pair that is left at the end is a phase above the last.
use Prim.Native.Nat.{◌+◌, ◌-◌}
use mathlib.Core.Path.{refl}
use mathlib.Core.Bool.{false}
use native.Mathlib.Omega.{arith}
use Rattle.measurement_reader.proofs.Fills.{cells_refused, cells_step, cells_end}
use Rattle.measurement_reader.proofs.walk.cells_into.Goals as goal

pub returns-then-c-eq-REFUSED : goal.returns-then-c-eq-REFUSED
returns-then-c-eq-REFUSED c =
    c.loop-k.invariant.1 false _ (cells_refused _ 6 _ _ _ _ _ c.seek-w.ensures _ c.cell_at-c.ensures _ (c.args.width - (c.loop-k.k + 1)) _ _ _
    (omega arith) c.if-c-eq-REFUSED.true)

pub loop-k-preserved : goal.loop-k-preserved
loop-k-preserved c = (
  omega arith,
  λ ok ws h. c.loop-k.invariant.1 ok ws
      (cells_step _ 6 _ _ _ _ _ c.seek-w.ensures _ c.cell_at-c.ensures _ (c.args.width - (c.loop-k.k + 1)) _ _ _ _ _ _ _ _ (omega arith) refl
      (omega arith) c.next_at-p.ensures c.if-c-eq-REFUSED.false c.put_place.ensures h),
)

pub returns : goal.returns
returns c = c.loop-k.invariant.1 _ _ (cells_end _ 6 _ _ _ _ _ _ _ (omega arith))
