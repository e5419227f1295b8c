-- `part` gives the precedence's word, whose rest by 256 is the id; past the last slot both are 0.
use Prim.Native.Nat.{◌%◌}
use mathlib.Core.Path.{refl}
use native.Mathlib.Nat.{add-zero}
use Rattle.device_store.specs.Zones.{id_of}
use Rattle.device_store.specs.Words.{zone_at}
use Rattle.device_store.proofs.Stores.{part_is}
use Rattle.device_store.proofs.lenses.id_at.Goals as goal

pub returns : goal.returns
unfolding zone_at id_of
returns c = rw c.part.ensures (part_is _ _ (λ x. x.precedence % 256) (λ v. v % 256) 0 (rw add-zero) refl)
