-- The holders before q are those of the definition; a turn adds the next.
use mathlib.Core.Path.{◌≡◌}
use lib.ListN.{length, take}
use Rattle.device_store.specs.Sizes.{helds}
use Rattle.device_store.specs.Zones.{up_to}
use Rattle.device_holds.specs.Holds.{situation_of}
use Rattle.device_holders.specs.Holders.{holder_at}
use Rattle.device_holders.proofs.holders_at.Given as goal

abbrev pub invariant-loop-q : goal.invariant-loop-q
invariant-loop-q l =
    (length l.hs ≡ helds) × (take l.q l.hs ≡ up_to (holder_at (situation_of l.d) l.t) l.q)
