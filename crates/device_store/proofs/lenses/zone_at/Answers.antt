-- The words of a slot are the zone of the definition; past the last slot the default is the free zone.
use Rattle.device_store.proofs.Lens.{zones_at, zones_past}
use Rattle.device_store.specs.Zones.{free_zone}
use Rattle.device_store.specs.Words.{zone_at}
use mathlib.Core.Path.{sym, ◌∙◌}
use Rattle.device_store.proofs.lenses.zone_at.Goals as goal

pub returns-then-slot-lt-SLOTS : goal.returns-then-slot-lt-SLOTS
unfolding zone_at
returns-then-slot-lt-SLOTS c =
    rw (c.word.ensures, c.word-then-slot-lt-SLOTS.ensures, c.helds_in.ensures) (sym (zones_at _ _ free_zone c.if-slot-lt-SLOTS.true))

pub returns : goal.returns
unfolding zone_at
returns c = c.free_zone.ensures ∙ sym (zones_past _ _ c.if-slot-lt-SLOTS.false)
