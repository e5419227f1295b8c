-- Judged as it is seen.
use Rattle.measurement_writer.proofs.FitCases.{cell-judged}
use Rattle.measurement_writer.proofs.fits.cell_fits.Goals as goal

pub returns : goal.returns
returns c = cell-judged _ _ _ c.cell_key_head.ensures _ c.is_number.ensures.tells
