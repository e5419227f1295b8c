-- A slot is found below SLOTS just where the zone is joined.
use Rattle.device_store.proofs.Slots.{slot_joined}
use Rattle.device_store.proofs.lenses.is_joined.Goals as goal

pub returns : goal.returns
returns c = rw c.slot_of_joined.ensures (slot_joined _ _)
