-- Each value is that of `held_in`.
use Rattle.std.proofs.Common.{rules}
use Rattle.device_store.specs.Zones.{nothing}
use Rattle.device_store.proofs.Ranges.{made}
use Rattle.device_store.proofs.lenses.helds_in.Goals as goal

pub returns : goal.returns
returns c = made _ _ _ (λ i y q k. search rules) _ _ nothing c.from_fn.ensures.items
