-- The type's map says what the column says, type by type and bit by bit.
use mathlib.Core.Path.{refl, ◌∙◌}
use Rattle.report_tables.specs.Endpoints.{required}
use Rattle.report.specs.Lists.{member}
use Rattle.report.specs.Features.{bit}
use Rattle.report.proofs.Tables.{mask_at}
use Rattle.report.proofs.features.requires_bit.Goals as goal

pub returns : goal.returns
unfolding required member bit
returns c =
    c.has.ensures ∙ rw c.required_bits.ensures (mask_at required refl c.args.endpoint c.args.b c.requires.0 c.requires.1)
