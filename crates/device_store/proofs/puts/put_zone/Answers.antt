-- Precedence, link and held values stand one behind the other from the slot's place on; no slot, no store.
use mathlib.Core.Path.{◌∙◌}
use Rattle.device_store.proofs.HeldWords.{bit-byte}
use Rattle.device_store.proofs.Stores.{stored, not-stored}
use Rattle.device_store.proofs.puts.put_zone.Goals as goal

pub returns-then-slot-lt-SLOTS : goal.returns-then-slot-lt-SLOTS
returns-then-slot-lt-SLOTS c =
    stored _ _ _ _ _ _ _ c.if-slot-lt-SLOTS.true c.put_word.ensures (c.from.ensures ∙ bit-byte _) c.put_word-then-slot-lt-SLOTS.ensures c.put_helds.ensures

pub returns-else-slot-lt-SLOTS : goal.returns-else-slot-lt-SLOTS
returns-else-slot-lt-SLOTS c = not-stored _ _ _ c.if-slot-lt-SLOTS.false
