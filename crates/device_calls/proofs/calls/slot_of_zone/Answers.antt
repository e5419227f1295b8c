-- A slot below the last is the joined zone's own.
use mathlib.Core.Path.{refl}
use Rattle.device_store.proofs.Slots.{found, not_found, found-slot}
use Rattle.device_calls.proofs.calls.slot_of_zone.Goals as goal

pub returns-then-slot-ge-SLOTS : goal.returns-then-slot-ge-SLOTS
returns-then-slot-ge-SLOTS c = (not_found _ _ _ c.slot_of_joined-slot.ensures c.if-slot-ge-SLOTS.true, refl)

pub returns : goal.returns
returns c = (
  found _ _ _ c.slot_of_joined-slot.ensures c.if-slot-ge-SLOTS.false,
  found-slot _ _ _ c.slot_of_joined-slot.ensures c.if-slot-ge-SLOTS.false,
)
