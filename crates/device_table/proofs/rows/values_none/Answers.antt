-- The control state, and no value.
use mir.Facts.{to_z-of_z}
use mir.Val.{SFits}
use mir.Syntax.{w64}
use borrow.Author.Rules.{rules}
use Rattle.device_store.specs.Zones.{up_to}
use Rattle.device_table.specs.Rows.{values_none}
use Rattle.device_table.proofs.rows.values_none.Goals as goal

pub returns : goal.returns
unfolding values_none up_to
returns c =
    let state : SFits w64 c.state_down.result = search rules in
    rw (to_z-of_z state, c.state_down.ensures, c.overridden.ensures)
