-- The story of a room: a call touches one slot at most, a left slot is free, a joined one is new, whatever stood there before.
use Prim.Native.Nat.{ℕ, ◌<◌}
use mathlib.Core.Bool.{Bool, true, false, cond}
use mathlib.Core.Logic.{◌≢◌}
use mathlib.Core.Path.{◌≡◌, refl}
use mathlib.Core.List.{List}
use borrow.Author.Tests.{leb-false, not-false}
use lib.Dec.{leb, eqb}
use lib.ListN.{length, get_or}
use lib.Seq.{get_or-set_same, get_or-set_other}
use Rattle.wire_messages.specs.declared.Command.{Command}
use Rattle.device_store.specs.Sizes.{helds, slots, words}
use Rattle.device_store.specs.Zones.{any, free_zone, new_zone, slot_of, zone_of, joined}
use Rattle.device_store.specs.Words.{clock_of, settings_of, zones_of, applied, after}
use Rattle.device_calls.specs.Refusals.{NoneHolds}
use Rattle.device_calls.specs.Calls.{zone_change, join_tests, join_number, join_after, leave_tests, leave_number, leave_after}
use Rattle.device_rules.specs.Rules.{bad_join}
use Rattle.command_effects.specs.Effects.{obeyed}
use Rattle.device_calls.specs.Commands.{command_number, command_after}
use Rattle.device_store.specs.declared.Zone.{Zone}
use Rattle.device_store.proofs.Runs.{length-up_to}
use Rattle.device_store.proofs.Lens.{zones_length}
use Rattle.device_store.proofs.Effects.{applied-zones}
use Rattle.device_store.proofs.Slots.{new_id, joined-below, unjoined, slot_new}
use Rattle.device_calls.proofs.Changes.{join-range}
use Rattle.kernel_laws.proofs.FirstOf.{accepted-exactly}

module _ (ws : List ℕ) (size : length ws ≡ words) where
  -- a call with a change of slot i: that slot where it is accepted, the others always
  module _ (n t i : ℕ) (x : Zone) (full : length x.held ≡ helds) where
    pub touched : n ≡ 0 → i < slots → get_or (zones_of (after ws n (zone_change ws t i x))) i free_zone ≡ x
    unfolding after zone_change
    touched e h = rw (e, applied-zones ws (zone_change ws t i x) size full) (get_or-set_same (zones_of ws) i x free_zone (rw (zones_length ws) h))

    pub untouched : (j : ℕ) → j ≢ i → get_or (zones_of (after ws n (zone_change ws t i x))) j free_zone ≡ get_or (zones_of ws) j free_zone
    unfolding after zone_change
    untouched j a = go (eqb n 0)
      where
        go : (b : Bool) → get_or (zones_of (cond b (applied ws (zone_change ws t i x)) ws)) j free_zone ≡ get_or (zones_of ws) j free_zone
        go true = rw (applied-zones ws (zone_change ws t i x) size full) (get_or-set_other (zones_of ws) i j x free_zone a)
        go false = refl

  -- "Leaving removes all the zone's values": its slot is free
  pub left_free : (z t : ℕ) → leave_number ws z t ≡ 0 → get_or (zones_of (leave_after ws z t)) (slot_of (zones_of ws) z) free_zone ≡ free_zone
  unfolding leave_after leave_number any
  left_free z t e =
      touched (leave_number ws z t) t (slot_of (zones_of ws) z) free_zone refl e
      (joined-below (zones_of ws) z (not-false _ ((accepted-exactly (leave_tests (clock_of ws) (joined (zones_of ws) z) t) refl).0 e 1)))

  -- what an accepted join has passed
  join-passed : (z k t : ℕ) → join_number ws z k t ≡ 0 → (bad_join z k ≡ false) × (joined (zones_of ws) z ≡ false) × (slot_of (zones_of ws) 0 < slots)
  unfolding join_number any
  join-passed z k t e =
      let tests = join_tests (clock_of ws) (joined (zones_of ws) z) (leb slots (slot_of (zones_of ws) 0)) z k t in
      let p : NoneHolds tests = (accepted-exactly tests refl).0 e in
      (p 1, p 2, leb-false slots _ (p 3))

  -- a joiner finds nothing of a former tenant
  pub joined-new : (z k t : ℕ) → join_number ws z k t ≡ 0 → get_or (zones_of (join_after ws z k t)) (slot_of (zones_of ws) 0) free_zone ≡ new_zone z k
  unfolding join_after
  joined-new z k t e = touched (join_number ws z k t) t (slot_of (zones_of ws) 0) (new_zone z k) refl e (join-passed z k t e).2

  joiner_slot : (z k t : ℕ) → join_number ws z k t ≡ 0 → slot_of (zones_of (join_after ws z k t)) z ≡ slot_of (zones_of ws) 0
  unfolding join_after after zone_change
  joiner_slot z k t e =
      rw (e, applied-zones ws (zone_change ws t (slot_of (zones_of ws) 0) (new_zone z k)) size refl)
      (slot_new (zones_of ws) z (slot_of (zones_of ws) 0) (new_zone z k) (rw (zones_length ws) (join-passed z k t e).2) (new_id z k (join-range z k (join-passed z k t e).0).1)
      (rw (zones_length ws) (unjoined (zones_of ws) z (join-range z k (join-passed z k t e).0).0 (join-passed z k t e).1)))

  pub joiner_new : (z k t : ℕ) → join_number ws z k t ≡ 0 → zone_of (zones_of (join_after ws z k t)) z ≡ new_zone z k
  unfolding zone_of
  joiner_new z k t e = rw (joiner_slot z k t e) (joined-new z k t e)

  -- a command changes nothing of any other zone
  pub command_others : (z t : ℕ) (c : Command) (j : ℕ) → j ≢ slot_of (zones_of ws) z → get_or (zones_of (command_after ws z t c)) j free_zone ≡ get_or (zones_of ws) j free_zone
  unfolding command_after obeyed
  command_others z t c j a = untouched (command_number ws z t c) t (slot_of (zones_of ws) z) (obeyed (settings_of ws) c t (zone_of (zones_of ws) z)) (length-up_to _ helds) j a
