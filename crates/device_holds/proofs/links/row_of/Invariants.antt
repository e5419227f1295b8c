-- The first zone that is up decides; a joined one is kept in mind.
use mathlib.Core.Path.{◌≡◌}
use lib.ListN.{drop}
use Rattle.device_holds.specs.Links.{link_row}
use Rattle.device_holds.proofs.LinkRow.{row_from}
use Rattle.device_holds.proofs.links.row_of.Given as goal

abbrev pub invariant-loop-i : goal.invariant-loop-i
invariant-loop-i g l = row_from l.r (drop l.i (g.S.ReadSlots.zones l.s)) ≡ link_row (g.S.ReadSlots.zones l.s)
