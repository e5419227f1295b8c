-- The change of a call, as the code makes it: the second since which no link is up is moved only where the last one goes.
use Prim.Native.Nat.{ℕ, ◌<◌, ◌≤◌}
use mathlib.Core.Bool.{Bool, beq, true, false, cond, not, ◌&&◌, ◌||◌}
use mathlib.Core.Path.{◌≡◌, refl}
use mathlib.Core.List.{List}
use native.Mathlib.Omega.{arith}
use borrow.Author.Tests.{leb-true, ne_eqb}
use lib.Dec.{leb}
use lib.ListN.{get_or, set}
use Rattle.device_store.specs.Sizes.{slots}
use Rattle.device_store.specs.Zones.{id_of, free_zone, new_zone, linked, is_joined, is_up, slot_of, joined}
use Rattle.device_store.specs.Words.{since_of, override_of, zones_of}
use Rattle.device_holds.specs.Links.{since_after}
use Rattle.device_calls.specs.Calls.{zone_change, same}
use Rattle.device_rules.specs.Rules.{ranks, bad_join}
use Rattle.device_store.specs.declared.Zone.{Zone}
use Rattle.device_store.proofs.Tests.{never}
use Rattle.device_holds.proofs.Since.{since-up, since-down}
use Rattle.device_store.proofs.Slots.{new_id, slot_id, joined-above, joined-below}
use Rattle.device_store.proofs.Lens.{zones_length}

-- a change of a zone that is up afterwards, and of one that is down
module _ (ws : List ℕ) (t i : ℕ) (x : Zone) where
  pub up_change : is_up x ≡ true → zone_change ws t i x ≡ record { time = t; slot = i; zone = x; since = since_of ws; overridden = override_of ws }
  unfolding zone_change
  up_change e = rw (since-up (zones_of ws) i t (since_of ws) x e)

  pub down_change : is_up x ≡ false
      → zone_change ws t i x ≡ record { time = t; slot = i; zone = x; since = since_after (zones_of ws) (set (zones_of ws) i free_zone) t (since_of ws); overridden = override_of ws }
  unfolding zone_change
  down_change e = rw (since-down (zones_of ws) i t (since_of ws) x e)

-- a zone that may join has an id and a rank in range, and is up once it has joined
pub join-range : (z k : ℕ) → bad_join z k ≡ false → (0 < z) × (z < 256) × (k ≤ ranks)
unfolding bad_join
join-range z k = go (leb 1 z) (leb z 255) (leb 1 k) (leb k ranks) refl refl refl
  where
    go : (a b c d : Bool) → leb 1 z ≡ a → leb z 255 ≡ b → leb k ranks ≡ d → (not (a && b) || not (c && d)) ≡ false → (0 < z) × (z < 256) × (k ≤ ranks)
    go true true true true e f g n = (omega (arith, leb-true 1 z e), omega (arith, leb-true z 255 f), omega (arith, leb-true k ranks g))
    go true true true false e f g n = absurd (never n)
    go true true false d e f g n = absurd (never n)
    go true false c d e f g n = absurd (never n)
    go false b c d e f g n = absurd (never n)

pub join_up : (z k : ℕ) → bad_join z k ≡ false → is_up (new_zone z k) ≡ true
unfolding is_up is_joined
join_up z k e =
    let r : (0 < z) × (z < 256) × (k ≤ ranks) = join-range z k e in
    rw (new_id z k r.1, ne_eqb z 0 (λ q. omega (arith, r.0)))

-- a joined zone's link, told: x is the record of its slot i
module _ (ws : List ℕ) (t i : ℕ) (x : Zone) (j : is_joined x ≡ true) where
  pub link_change : (u : Bool)
      → zone_change ws t i (linked x u)
      ≡ record {
        time = t;
        slot = i;
        zone = linked x u;
        since = cond u (since_of ws) (since_after (zones_of ws) (set (zones_of ws) i free_zone) t (since_of ws));
        overridden = override_of ws;
      }
  unfolding is_up is_joined id_of
  link_change true = up_change ws t i (linked x true) (rw j)
  link_change false = down_change ws t i (linked x false) (rw j)

pub joined-there : (ws : List ℕ) (z : ℕ) → joined (zones_of ws) z ≡ true → is_joined (get_or (zones_of ws) (slot_of (zones_of ws) z) free_zone) ≡ true
unfolding is_joined
joined-there ws z j =
    let above : 0 < z = joined-above (zones_of ws) z j in
    let below : slot_of (zones_of ws) z < slots = joined-below (zones_of ws) z j in
    rw (slot_id (zones_of ws) z (omega (arith, zones_length ws)), ne_eqb z 0 (λ q. omega arith))

-- whether a link is as told
pub as_told : (a b : Bool) → beq a b ≡ same a b
unfolding same
as_told true true = refl
as_told true false = refl
as_told false true = refl
as_told false false = refl
