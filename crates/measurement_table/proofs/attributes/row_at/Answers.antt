-- Past its rows the list gives its default.
use mathlib.Core.Path.{sym}
use lib.ListN.{get_or-eq_default}
use Rattle.measurement_table.specs.Rows.{rows}
use Rattle.measurement_table.proofs.attributes.row_at.Goals as goal

pub returns-else-k-lt-ROWS : goal.returns-else-k-lt-ROWS
unfolding rows
returns-else-k-lt-ROWS c = sym (get_or-eq_default rows _ c.if-k-lt-ROWS.false)
