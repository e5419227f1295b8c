-- What is left of the table makes the whole; its rows have 36 places.
use mathlib.Core.Bool.{false}
use native.Mathlib.Omega.{arith}
use Rattle.measurement_reader.proofs.Rows.{row_next, places-next, places-start, rows-refused, rows_step, rows_end}
use Rattle.measurement_reader.proofs.walk.rows_into.Goals as goal

pub loop-i-init : goal.loop-i-init
loop-i-init c = (omega arith, places-start, λ ok ws h. h)

pub row_into-requires : goal.row_into-requires
row_into-requires c = omega (arith, places-next _ _ c.loop-i-test.true c.row_at-row.ensures)

pub returns-then-not-row_into : goal.returns-then-not-row_into
returns-then-not-row_into c =
    c.loop-i.invariant.2 false _ (rows-refused _ _ _ _ (row_next _ _ c.loop-i-test.true c.row_at-row.ensures) _ _ _ c.seek-w.ensures _ _ _ _
    c.row_into.ensures c.if-not-row_into.true _)

pub loop-i-preserved : goal.loop-i-preserved
loop-i-preserved c = (
  omega arith,
  omega (arith, places-next _ _ c.loop-i-test.true c.row_at-row.ensures),
  λ ok ws h. c.loop-i.invariant.2 ok ws
      (rows_step _ _ _ _ (row_next _ _ c.loop-i-test.true c.row_at-row.ensures) _ _ _ c.seek-w.ensures _ _ _ _ c.row_into.ensures
      c.if-not-row_into.false _ _ ok ws (omega arith) c.next_at-p.ensures h),
)

pub returns : goal.returns
returns c = c.loop-i.invariant.2 _ _ (rows_end _ c.loop-i.i _ _ _ _ (omega arith))
