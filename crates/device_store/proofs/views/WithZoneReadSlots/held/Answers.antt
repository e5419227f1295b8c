-- The given record in its slot's place; each other slot as it stands.
use mathlib.Core.Path.{◌≡◌, sym, ◌∙◌}
use native.Mathlib.Omega.{arith}
use lib.ListN.{length, get_or-eq_default}
use Rattle.device_store.specs.Sizes.{helds}
use Rattle.device_store.specs.Zones.{held_of, nothing}
use Rattle.device_store.proofs.Folds.{length-of}
use Rattle.device_store.proofs.Placed.{placed_is, placed_not}
use Rattle.device_store.proofs.views.WithZoneReadSlots.held.Goals as goal

pub returns-then-q-lt-HELDS : goal.returns-then-q-lt-HELDS
unfolding held_of
returns-then-q-lt-HELDS c = rw (placed_is _ _ _ _ (sym c.is_at.ensures ∙ c.if-is_at.true))

pub returns-else-q-lt-HELDS : goal.returns-else-q-lt-HELDS
unfolding held_of
returns-else-q-lt-HELDS c =
    let l : length c.args.self.now.zone.held ≡ helds = search length-of in
    rw (placed_is _ _ _ _ (sym c.is_at.ensures ∙ c.if-is_at.true)) (sym (get_or-eq_default _ nothing {n = c.args.q} (omega arith)))

pub returns : goal.returns
returns c = rw (placed_not _ _ _ _ (sym c.is_at.ensures ∙ c.if-is_at.false)) c.held_at.ensures
