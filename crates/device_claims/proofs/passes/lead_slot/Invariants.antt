-- A free slot claims nothing; each turn reads one setpoint of a joined zone, and its precedence, which is a word.
use Prim.Native.Nat.{◌<◌, ◌≤◌}
use mathlib.Core.Path.{◌≡◌}
use lib.ListN.{get_or}
use Rattle.device_store.specs.Sizes.{most}
use Rattle.device_store.specs.Zones.{free_zone}
use Rattle.device_claims.specs.Pass.{leading_setpoints_with}
use Rattle.device_claims.proofs.passes.lead_slot.Given as goal

abbrev pub invariant-loop-k : goal.invariant-loop-k
invariant-loop-k g l =
    (l.g ≡ leading_setpoints_with l.t (get_or (g.S.ReadSlots.zones l.s) l.i free_zone) l.k l.initial.g) × (0 < l.k → (get_or (g.S.ReadSlots.zones l.s) l.i free_zone).precedence ≤ most)
