-- The given record in its slot's place; each other slot as it stands.
use mathlib.Core.Path.{sym, ◌∙◌}
use Rattle.device_store.proofs.Placed.{placed_is, placed_not}
use Rattle.device_store.proofs.views.WithZoneReadSlots.up.Goals as goal

pub returns-then-is_at : goal.returns-then-is_at
returns-then-is_at c = rw (placed_is _ _ _ _ (sym c.is_at.ensures ∙ c.if-is_at.true))

pub returns : goal.returns
returns c = rw (placed_not _ _ _ _ (sym c.is_at.ensures ∙ c.if-is_at.false)) c.up_at.ensures
