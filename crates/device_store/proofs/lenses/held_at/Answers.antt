-- The two words of a value are its place in the record; past the last slot or quantity nothing is held.
use mathlib.Core.Path.{◌∙◌}
use Rattle.device_store.proofs.Stores.{held-here, held-past, held-free}
use Rattle.device_store.proofs.lenses.held_at.Goals as goal
use Rattle.device_store.proofs.lenses.held_at.Goals.{else-slot-lt-SLOTS-via-then-slot-lt-SLOTS+else-q-lt-HELDS, else-slot-lt-SLOTS-via-else-slot-lt-SLOTS}

pub returns-then-q-lt-HELDS : goal.returns-then-q-lt-HELDS
returns-then-q-lt-HELDS c = c.held_in.ensures ∙ held-here _ _ _ c.if-slot-lt-SLOTS.true c.if-q-lt-HELDS.true

pub returns : goal.returns
returns c =
    elim c.else-slot-lt-SLOTS.branch [
      | else-slot-lt-SLOTS-via-then-slot-lt-SLOTS+else-q-lt-HELDS w ↦ held-past _ _ _ w.if-slot-lt-SLOTS.true w.if-q-lt-HELDS.false
      | else-slot-lt-SLOTS-via-else-slot-lt-SLOTS w ↦ held-free _ _ _ w.if-slot-lt-SLOTS.false
    ]
