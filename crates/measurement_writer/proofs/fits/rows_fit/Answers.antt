-- What is left of the rows makes the whole.
use mathlib.Core.Path.{ap, ◌∙◌}
use native.Mathlib.Omega.{arith}
use Rattle.measurement_table.specs.Table.{rows}
use Rattle.measurement_table.specs.Cells.{rows_fit}
use Rattle.measurement_writer.proofs.FitWalk.{row-shaped, row_next, places-next, places-start, held_all, rows_fit-more, rows_fit-not, rows_fit-end}
use Rattle.measurement_writer.proofs.fits.rows_fit.Goals as goal

pub loop-i-init : goal.loop-i-init
loop-i-init c = (omega arith, places-start, ap (rows_fit rows) (held_all _))

pub row_fits-requires : goal.row_fits-requires
row_fits-requires c = (
  omega (arith, places-next _ _ c.loop-i-test.true c.row_at-row.ensures),
  row-shaped _ _ c.loop-i-test.true
      c.row_at-row.ensures,
)

pub returns-then-not-row_fits : goal.returns-then-not-row_fits
returns-then-not-row_fits c =
    rows_fit-not _ _ _ _ (row_next _ _ c.loop-i-test.true c.row_at-row.ensures) _ _ c.row_fits.ensures
    c.if-not-row_fits.true ∙ c.loop-i.invariant.2

pub loop-i-preserved : goal.loop-i-preserved
loop-i-preserved c = (
  omega arith,
  omega (arith, places-next _ _ c.loop-i-test.true c.row_at-row.ensures),
  rows_fit-more _ _ _ _ (row_next _ _ c.loop-i-test.true c.row_at-row.ensures) _ _ c.row_fits.ensures
      c.if-not-row_fits.false ∙ c.loop-i.invariant.2,
)

pub returns : goal.returns
returns c = rows_fit-end c.loop-i.i (omega arith) _ ∙ c.loop-i.invariant.2
