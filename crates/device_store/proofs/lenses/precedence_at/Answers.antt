-- `part` gives the precedence's word; past the last slot it is 0, the precedence of a free zone.
use mathlib.Core.Path.{refl}
use native.Mathlib.Nat.{add-zero}
use Rattle.device_store.specs.Words.{zone_at}
use Rattle.device_store.proofs.Stores.{part_is}
use Rattle.device_store.proofs.lenses.precedence_at.Goals as goal

pub returns : goal.returns
unfolding zone_at
returns c = rw c.part.ensures (part_is _ _ (λ x. x.precedence) (λ v. v) 0 (rw add-zero) refl)
