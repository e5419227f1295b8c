-- One place, or three.
use Rattle.measurement_writer.proofs.FitWalk.{three_places}
use Rattle.measurement_writer.proofs.FitCases.{one_fits, three_fit}
use Rattle.measurement_writer.proofs.fits.row_fits.Goals as goal

pub returns-then-row-eq1 : goal.returns-then-row-eq1
returns-then-row-eq1 c =
    one_fits _ _ c.args.row c.if-row-eq1.true _ c.range_of-range.ensures _ c.cell_fits.ensures

pub returns : goal.returns
returns c =
    three_fit _ _ c.args.row (three_places c.args.row c.requires.1 c.if-row-eq1.false) _ c.range_of-range.ensures _ _ _ _ c.cell_fits-2.ensures
    c.cell_fits-3.ensures c.cell_fits-4.ensures c.all3.ensures
