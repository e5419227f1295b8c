-- The row shows each quantity; the control state is stored last, from the limits shown.
use mir.Facts.{to_z-of_z}
use mir.Val.{SFits}
use mir.Syntax.{w64}
use borrow.Author.Rules.{rules}
use Rattle.device_table.proofs.Filled.{up_filled}
use Rattle.device_table.proofs.rows.values_up.Goals as goal

pub returns : goal.returns
returns c =
    let f : SFits w64 c.state_up.result = search rules in
    rw (to_z-of_z f, ← c.settings_at.ensures)
    (up_filled c.settings_at.result.directions _ c.args.a.low c.args.b.lead c.row-v.result c.state_up.result _ _ c.row-v.ensures.0
    c.row-v.ensures.1 (rw c.overridden.ensures at c.state_up.ensures) (search rules) (search rules))
