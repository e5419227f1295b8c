-- A free slot claims nothing; each turn reads one limit of a joined zone.
use mathlib.Core.Path.{◌≡◌}
use lib.ListN.{get_or}
use Rattle.device_store.specs.Zones.{free_zone}
use Rattle.device_claims.specs.Pass.{lowest_values_with, Bounded}
use Rattle.device_claims.proofs.passes.low_slot.Given as goal

abbrev pub invariant-loop-k : goal.invariant-loop-k
invariant-loop-k g l =
    (l.g ≡ lowest_values_with l.t (get_or (g.S.ReadSlots.zones l.s) l.i free_zone) l.k l.initial.g) × Bounded (get_or (g.S.ReadSlots.zones l.s) l.i free_zone) l.k
