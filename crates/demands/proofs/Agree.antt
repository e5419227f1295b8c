-- The words of a device agree with a log: kept by each change that an accepted call makes.
use mathlib.Core.Path.{◌≡◌, refl, sym, ap, ◌∙◌, subst}
use mathlib.Core.Logic.{◌≢◌, ◌⊎◌, inl, inr}
use mathlib.Core.Bool.{Bool, true, false, cond, not, ◌&&◌}
use mathlib.Core.List.{List, ◌∷◌}
use mathlib.Core.Option.{none}
use Prim.Native.Nat.{ℕ, ◌≤◌, ◌<◌}
use native.Mathlib.Omega.{arith}
use lib.Dec.{eqb}
use lib.ListN.{length, set}
use lib.Seq.{set_out}
use borrow.Author.Tests.{ne_eqb, eqb-true}
use Rattle.wire_messages.specs.declared.Command.{Command}
use Rattle.device_store.specs.declared.Zone.{Zone}
use Rattle.device_store.specs.declared.Settings.{Settings}
use Rattle.device_store.specs.declared.Change.{Change}
use Rattle.device_store.specs.Sizes.{slots, helds, words}
use Rattle.device_store.specs.Zones.{id_of, free_zone, new_zone, linked, slot_of, zone_of, any_up}
use Rattle.device_store.specs.Words.{clock_of, since_of, override_of, settings_of, zones_of, applied, after}
use Rattle.device_holds.specs.Holds.{situation_of, values_at}
use Rattle.device_holds.specs.Links.{since_after}
use Rattle.device_calls.specs.Calls.{zone_change}
use Rattle.device_store.specs.Words.{head_change}
use Rattle.command_effects.specs.Effects.{obeyed}
use Rattle.device_store.proofs.Lens.{zones_length}
use Rattle.device_store.proofs.Effects.{applied-length, applied-settings, applied-clock, applied-since, applied-override, applied-zones}
use Rattle.demands.specs.History.{Told, joins, leaves, links, commands, overrides, passes, Entry, Log, about}
use Rattle.demands.specs.History.{newest, says_override, says_clock, clock_by, override_by, joined_by, record_by, zones_by, since_by, situation_by}
use Rattle.demands.specs.Accepted.{kept}
use Rattle.demands.proofs.Lists.{never}
use Rattle.demands.proofs.Says.{joined-other, record_other, joined-join, record_join, joined-leave, joined-link, record_link, joined-command, record_command, record_size}
use Rattle.demands.proofs.Claims.{any_up-same, values_same}
use Rattle.demands.proofs.Same.{at, id_high, Same, Moves, Found, found, slot_mine, same_set, same_log, slots-within, history-within, slots-one}

pub record Agree (s : Settings) (ws : List ℕ) (h : Log) : Type 0 where
  pub size : length ws ≡ words
  pub settings : settings_of ws ≡ s
  pub clock : clock_of ws ≡ clock_by h
  pub since : since_of ws ≡ since_by s h
  pub override : override_of ws ≡ override_by h
  pub zones : Same s (zones_of ws) h

-- so they have the same values at each second
pub agree_values : (s : Settings) (ws : List ℕ) (h : Log) → Agree s ws h → (t : ℕ) → values_at (situation_of ws) t ≡ values_at (situation_by s h) t
agree_values s ws h a =
    values_same (situation_of ws) (situation_by s h)
    (record {
      there = slots-within s (zones_of ws) h a.zones;
      back = history-within s (zones_of ws) h a.zones;
      one = slots-one s (zones_of ws) h a.zones;
      settings = a.settings;
      since = a.since;
      override = a.override;
    })

pub any-up : (s : Settings) (zs : List Zone) (h : Log) → Same s zs h → any_up zs ≡ any_up (zones_by s h)
any-up s zs h k = any_up-same zs (zones_by s h) (slots-within s zs h k) (history-within s zs h k)

clock_step : (h : Log) (t : ℕ) (e : Told) → clock_by ((t, e) ∷ h) ≡ t
unfolding clock_by newest says_clock
clock_step h t e = refl

override-step : (h : Log) (t : ℕ) (e : Told) → says_override t e ≡ none → override_by ((t, e) ∷ h) ≡ override_by h
unfolding override_by newest
override-step h t e p = rw p

-- A WHOLE RECORD STORED
agree_zone : (s : Settings) (ws : List ℕ) (h : Log) (t : ℕ) (e : Told) (z i : ℕ) (x : Zone) → Agree s ws h
    → says_override t e ≡ none → length x.held ≡ helds → Moves s (zones_of ws) h ((t, e) ∷ h) z i x → Agree s (applied ws (zone_change ws t i x)) ((t, e) ∷ h)
unfolding zone_change
agree_zone s ws h t e z i x a o f m =
    record {
      size = applied-length ws c ∙ a.size;
      settings = applied-settings ws c ∙ a.settings;
      clock = applied-clock ws c a.size ∙ sym (clock_step h t e);
      since = applied-since ws c a.size ∙ moved;
      override = applied-override ws c a.size ∙ a.override ∙ sym (override-step h t e o);
      zones = subst (λ (l : List Zone). Same s l ((t, e) ∷ h)) (sym (applied-zones ws c a.size f)) k;
    }
  where
    c : Change
    c = zone_change ws t i x

    k : Same s (set (zones_of ws) i x) ((t, e) ∷ h)
    k = same_set s (zones_of ws) h ((t, e) ∷ h) z i x a.zones m

    moved : since_after (zones_of ws) (set (zones_of ws) i x) t (since_of ws) ≡ since_by s ((t, e) ∷ h)
    moved = unfold since_by since_after in rw (any-up s (zones_of ws) h a.zones, any-up s (set (zones_of ws) i x) ((t, e) ∷ h) k, a.since)

-- THE HEAD ALONE
agree_head : (s : Settings) (ws : List ℕ) (h : Log) (t : ℕ) (e : Told) (o : ℕ) → Agree s ws h
    → ((y : ℕ) → about y e ≡ false) → override_by ((t, e) ∷ h) ≡ o → Agree s (applied ws (head_change ws t o)) ((t, e) ∷ h)
unfolding head_change since_by since_after
agree_head s ws h t e o a n p =
    record {
      size = applied-length ws c ∙ a.size;
      settings = applied-settings ws c ∙ a.settings;
      clock = applied-clock ws c a.size ∙ sym (clock_step h t e);
      since = applied-since ws c a.size ∙ a.since ∙ still;
      override = applied-override ws c a.size ∙ sym p;
      zones = subst (λ (l : List Zone). Same s l ((t, e) ∷ h)) (sym (applied-zones ws c a.size refl ∙ set_out (zones_of ws) slots free_zone (omega (arith, zones_length ws)))) k;
    }
  where
    c : Change
    c = head_change ws t o

    k : Same s (zones_of ws) ((t, e) ∷ h)
    k = same_log s (zones_of ws) h ((t, e) ∷ h) (λ y. (joined-other h y t e (n y), record_other s h y t e (n y))) a.zones

    both : (b : Bool) → since_by s h ≡ cond (b && not b) t (since_by s h)
    both true = refl
    both false = refl

    still : since_by s h ≡ cond (any_up (zones_by s h) && not (any_up (zones_by s ((t, e) ∷ h)))) t (since_by s h)
    still = rw (← any-up s (zones_of ws) h a.zones, ← any-up s (zones_of ws) ((t, e) ∷ h) k) (both (any_up (zones_of ws)))

pub agree_override : (s : Settings) (ws : List ℕ) (h : Log) (t o : ℕ) → Agree s ws h → Agree s (applied ws (head_change ws t o)) ((t, overrides o) ∷ h)
unfolding about override_by newest says_override
agree_override s ws h t o a = agree_head s ws h t (overrides o) o a (λ y. refl) refl

pub agree_passes : (s : Settings) (ws : List ℕ) (h : Log) (t : ℕ) → Agree s ws h → Agree s (applied ws (head_change ws t (override_of ws))) ((t, passes) ∷ h)
unfolding about override_by newest says_override
agree_passes s ws h t a = agree_head s ws h t passes (override_of ws) a (λ y. refl) (sym a.override)

-- JOIN
pub agree_join : (s : Settings) (ws : List ℕ) (h : Log) (z k t : ℕ) → Agree s ws h → 1 ≤ z → z ≤ 255 → joined_by h z ≡ false → slot_of (zones_of ws) 0 < slots
    → Agree s (applied ws (zone_change ws t (slot_of (zones_of ws) 0) (new_zone z k))) ((t, joins z k) ∷ h)
unfolding about says_override
agree_join s ws h z k t a low high n p =
    agree_zone s ws h t (joins z k) z (slot_of (zones_of ws) 0) (new_zone z k) a refl refl
    (record {
      low = low;
      high = high;
      place = p;
      mine = inl (slot_mine s (zones_of ws) h a.zones 0 p);
      alone = λ j q e. never (sym n ∙ subst (λ (y : ℕ). joined_by h y ≡ true) e (a.zones.there j q (omega arith)).told);
      others = λ y q. let f = ne_eqb z y (λ e. q (sym e)) in (joined-other h y t (joins z k) f, record_other s h y t (joins z k) f);
      new = inr (joined-join h z t k, sym (record_join s h z t k));
    })

-- A JOINED ZONE'S OWN CALL
module _ (s : Settings) (ws : List ℕ) (h : Log) (z t : ℕ) (a : Agree s ws h) (j : joined_by h z ≡ true) where
  -- what the device finds of it
  f : Found s (zones_of ws) h z
  f = found s (zones_of ws) h a.zones z j

  agree_own : (e : Told) (x : Zone) → says_override t e ≡ none → length x.held ≡ helds → ((y : ℕ) → y ≢ z → about y e ≡ false)
      → ((id_of x ≡ 0) × (joined_by ((t, e) ∷ h) z ≡ false)) ⊎ ((joined_by ((t, e) ∷ h) z ≡ true) × (x ≡ record_by s ((t, e) ∷ h) z))
      → Agree s (applied ws (zone_change ws t (slot_of (zones_of ws) z) x)) ((t, e) ∷ h)
  agree_own e x o size others new =
      agree_zone s ws h t e z (slot_of (zones_of ws) z) x a o size
      (record {
        low = f.low;
        high = omega (arith, f.mine, id_high (at (zones_of ws) (slot_of (zones_of ws) z)));
        place = f.place;
        mine = inr f.mine;
        alone = λ i q e. a.zones.one i (slot_of (zones_of ws) z) q f.place (omega (arith, f.low)) (e ∙ sym f.mine);
        others = λ y q. (joined-other h y t e (others y q), record_other s h y t e (others y q));
        new = new;
      })

  free-id : id_of free_zone ≡ 0
  unfolding id_of
  free-id = refl

  pub agree_leave : Agree s (applied ws (zone_change ws t (slot_of (zones_of ws) z) free_zone)) ((t, leaves z) ∷ h)
  unfolding about says_override
  agree_leave = agree_own (leaves z) free_zone refl refl (λ y n. ne_eqb z y (λ e. n (sym e))) (inl (free-id, joined-leave h z t))

  pub agree_link : (u : Bool) → Agree s (applied ws (zone_change ws t (slot_of (zones_of ws) z) (linked (zone_of (zones_of ws) z) u))) ((t, links z u) ∷ h)
  unfolding about says_override
  agree_link u =
      agree_own (links z u) (linked (zone_of (zones_of ws) z) u) refl (ap (λ (x : Zone). length x.held) f.whole ∙ record_size s h z) (λ y n. ne_eqb z y (λ e. n (sym e)))
      (inr (joined-link h z t u ∙ j, ap (λ (x : Zone). linked x u) f.whole ∙ sym (record_link s h z t u)))

  pub agree_obey : (c : Command) → Agree s (applied ws (zone_change ws t (slot_of (zones_of ws) z) (obeyed (settings_of ws) c t (zone_of (zones_of ws) z)))) ((t, commands z c) ∷ h)
  unfolding about says_override
  agree_obey c =
      let e : obeyed (settings_of ws) c t (zone_of (zones_of ws) z) ≡ record_by s ((t, commands z c) ∷ h) z = rw (a.settings, f.whole) (sym (record_command s h z t c)) in
      agree_own (commands z c) (obeyed (settings_of ws) c t (zone_of (zones_of ws) z)) refl
      (ap (λ (x : Zone). length x.held) e ∙ record_size s ((t, commands z c) ∷ h) z) (λ y n. ne_eqb z y (λ e. n (sym e)))
      (inr (joined-command h z t c ∙ j, e))

-- a call's effect and the log, whether it is accepted or not
pub agree_after : (s : Settings) (ws : List ℕ) (h : Log) (n : ℕ) (c : Change) (e : Entry) → Agree s ws h → (n ≡ 0 → Agree s (applied ws c) (e ∷ h)) → Agree s (after ws n c) (kept n e h)
unfolding after kept
agree_after s ws h n c e a g = go (eqb n 0) refl
  where
    go : (b : Bool) → eqb n 0 ≡ b → Agree s (cond b (applied ws c) ws) (cond b (e ∷ h) h)
    go true p = g (eqb-true n 0 p)
    go false p = a
