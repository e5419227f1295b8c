-- The fold of what is left, from the slot met so far, is the fold of all; below SLOTS that slot is a zone's.
use mathlib.Core.Path.{refl}
use native.Mathlib.Omega.{arith}
use Rattle.device_store.specs.Sizes.{slots}
use Rattle.device_store.specs.Zones.{free_zone, id_of, is_joined}
use Rattle.device_store.specs.Words.{zones_of}
use Rattle.device_store.proofs.Folds.{fold_turn, fold_end}
use Rattle.device_store.proofs.Lens.{zones_length, zones_past}
use Rattle.device_holders.specs.Holders.{best_placed}
use Rattle.device_holders.proofs.best_placed.Goals as goal

pub loop-i-init : goal.loop-i-init
unfolding best_placed is_joined id_of
loop-i-init c = rw (zones_past c.args.d.now slots (omega arith)) (refl, refl)

pub loop-i-preserved : goal.loop-i-preserved
loop-i-preserved c = (
  fold_turn _ (zones_of c.args.d.now) free_zone c.loop-i.i _ _ _ (omega (arith, zones_length c.args.d.now))
      c.loop-i.invariant.0 c.better_placed-best.ensures.placed,
  c.better_placed-best.ensures.placed_joined,
)

pub returns : goal.returns
returns c =
    fold_end _ (zones_of c.args.d.now) c.loop-i.i _ _ (omega (arith, zones_length c.args.d.now)) c.loop-i.invariant.0
