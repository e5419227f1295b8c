-- `part` gives the link's word, up where it is above 0; past the last slot it is 0, and a free zone is down.
use mathlib.Core.Path.{refl}
use lib.Dec.{ltb}
use Rattle.device_store.specs.Words.{zone_at}
use Rattle.device_store.proofs.Stores.{part_is}
use Rattle.device_store.proofs.lenses.up_at.Goals as goal

pub returns : goal.returns
unfolding zone_at
returns c = rw c.part.ensures (part_is _ _ (λ x. x.up) (λ v. ltb 0 v) 1 refl refl)
