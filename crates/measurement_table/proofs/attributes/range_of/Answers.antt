-- Past the kinds the list gives its default.
use mathlib.Core.Path.{sym}
use lib.ListN.{get_or-eq_default}
use Rattle.measurement_table.specs.Rows.{ranges, range_of}
use Rattle.measurement_table.proofs.attributes.range_of.Goals as goal

pub returns-else-kind-lt-KINDS : goal.returns-else-kind-lt-KINDS
unfolding range_of ranges
returns-else-kind-lt-KINDS c = sym (get_or-eq_default ranges _ c.if-kind-lt-KINDS.false)
