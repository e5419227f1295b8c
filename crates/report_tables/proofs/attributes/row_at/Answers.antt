-- Past its rows the list gives its default.
use mathlib.Core.Path.{sym}
use lib.ListN.{get_or-eq_default}
use Rattle.report_tables.specs.Attributes.{rows, no_row}
use Rattle.report_tables.proofs.attributes.row_at.Goals as goal

pub returns-else-k-lt-ROWS : goal.returns-else-k-lt-ROWS
unfolding rows
returns-else-k-lt-ROWS c = sym (get_or-eq_default rows no_row c.if-k-lt-ROWS.false)
