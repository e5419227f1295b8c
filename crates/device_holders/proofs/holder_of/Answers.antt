-- A number below 0 is absent; of any other it is asked who holds it.
use mathlib.Core.Path.{◌∙◌, ap}
use mir.Facts.{to_z-of_z}
use Rattle.device_store.specs.declared.Zone.{Zone}
use Rattle.device_holds.specs.Holds.{situation_of}
use Rattle.device_holders.specs.Holders.{named}
use Rattle.device_holders.proofs.Signs.{absent-holder, shown-holder}
use Rattle.device_holders.proofs.holder_of.Goals as goal

pub returns-then-v-lt0 : goal.returns-then-v-lt0
returns-then-v-lt0 c = absent-holder _ _ _ _ (rw (to_z-of_z c.ranges.v) at c.if-v-lt0.true)

pub returns : goal.returns
returns c =
    c.named.ensures
    ∙ ap (λ (x : Zone). named (situation_of c.args.d.now) c.args.q x) (rw (to_z-of_z c.ranges.v) at c.best_placed.ensures)
    ∙ shown-holder _ _ _ _ (rw (to_z-of_z c.ranges.v) at c.if-v-lt0.false)
