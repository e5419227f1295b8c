-- The fold of what is left, from the slot met so far, is the fold of all; below SLOTS that slot is a zone's.
use mathlib.Core.Path.{◌≡◌}
use mathlib.Core.List.{foldl}
use lib.Dec.{ltb}
use lib.ListN.{get_or, drop}
use Rattle.device_store.specs.Sizes.{slots}
use Rattle.device_store.specs.Zones.{free_zone, is_joined}
use Rattle.device_store.specs.Words.{zones_of}
use Rattle.device_holders.specs.Holders.{holds_value, better_placed, best_placed}
use Rattle.device_holders.proofs.best_placed.Given as goal

abbrev pub invariant-loop-i : goal.invariant-loop-i
invariant-loop-i l =
    (foldl (better_placed (holds_value l.t l.q l.v)) (get_or (zones_of l.d) l.best free_zone) (drop l.i (zones_of l.d)) ≡ best_placed (holds_value l.t l.q l.v) (zones_of l.d))
    × (is_joined (get_or (zones_of l.d) l.best free_zone) ≡ ltb l.best slots)
