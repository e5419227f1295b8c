-- A device that calls lead to names whom the history names, and that zone set the value itself.
use Rattle.std.specs.Prelude.{None, Some}
use Prim.Native.Nat.{ℕ, ◌≤◌, ◌<◌}
use mathlib.Core.Path.{◌≡◌, refl, sym, ap, ◌∙◌, subst}
use mathlib.Core.Logic.{◌↔◌, ⊎_elim}
use mathlib.Core.Bool.{true}
use mathlib.Core.List.{List}
use native.Mathlib.Omega.{arith}
use borrow.Author.Tests.{lt-ltb}
use lib.IntN.{pos, negsuc}
use lib.ListN.{get_or}
use Rattle.wire_messages.specs.Options.{Amount}
use Rattle.device_store.specs.Sizes.{ids, helds, slots, value_end}
use Rattle.device_store.specs.Zones.{id_of, free_zone, held_of}
use Rattle.device_store.specs.Words.{zones_of}
use Rattle.device_store.specs.declared.Held.{Held}
use Rattle.device_store.specs.declared.Settings.{Settings}
use Rattle.device_store.specs.declared.Zone.{Zone}
use Rattle.device_store.proofs.Lens.{zones_length, zones_at}
use Rattle.device_holds.specs.Holds.{Situation, situation_of, value_at, shown}
use Rattle.device_holders.specs.Holders.{NOBODY, BY_FAILSAFE, holder_at}
use Rattle.device_holders.specs.declared.Holder.{Holder}
use Rattle.device_holders.specs.Naming.{NamesZone}
use Rattle.device_holders.proofs.Names.{names}
use Rattle.device_holders.proofs.Holding.{shown-as}
use Rattle.demands.specs.Run.{Call, run}
use Rattle.demands.specs.History.{joined_by}
use Rattle.demands.specs.Accepted.{InPairs, history, started_with, told}
use Rattle.demands.proofs.Claims.{Alike, value_same}
use Rattle.demands.proofs.Same.{is_joined-low, slots-within, history-within, slots-one}
use Rattle.demands.proofs.Reached.{agree_run}
use Rattle.demands.proofs.Ranges.{value_small}
use Rattle.demands.proofs.Slots.{released_slot}
use Rattle.demands.specs.Blame.{SetItself, Safe, NeverTheWrongZone}
use Rattle.demands.proofs.FailsafeEnd.{whole-end}
use Rattle.demands.proofs.SameHolders.{holder_same}

-- what is shown as v is v
shown-is : (a : Amount) (v : ℕ) → shown a ≡ pos v → a ≡ Some v
shown-is a v e =
    ⊎_elim
    (λ k. k.1 ∙ ap Some (let f : pos k.0 ≡ pos v = sym k.2 ∙ e in cc))
    (λ n. absurd (let f : pos v ≡ negsuc 0 = sym e ∙ n in let z : ◌≡◌ {A = ℕ} 0 1 = cc in omega arith))
    (shown-as a)

module _ (s : Settings) (pairs : InPairs s) (calls : List Call) (t q : ℕ) where
  abbrev here : Situation
  here = situation_of (run s calls)

  abbrev there : Situation
  there = told s calls

  alike : Alike here there
  alike =
      let a = agree_run s pairs calls in
      let u = started_with s in
      let h = history s calls in
      record {
        there = slots-within u (zones_of (run s calls)) h a.zones;
        back = history-within u (zones_of (run s calls)) h a.zones;
        one = slots-one u (zones_of (run s calls)) h a.zones;
        settings = a.settings;
        since = a.since;
        override = a.override;
      }

  same : holder_at here t q ≡ holder_at there t q
  same = holder_same here there alike t q

  -- no value is as large as 2^63, so that what shows none is absent
  none-absent : q < helds → shown (value_at there t q) ≡ negsuc 0 → value_at there t q ≡ None
  none-absent l e = go (value_at there t q) refl
    where
      go : (a : Amount) → value_at there t q ≡ a → a ≡ None
      go None f = refl
      go (Some v) f =
          let g : shown (value_at there t q) ≡ pos v = unfold shown in rw (f, lt-ltb v value_end (value_small s calls t q v l f)) in
          let m : pos v ≡ negsuc 0 = sym g ∙ e in
          absurd (let z : ◌≡◌ {A = ℕ} 0 1 = cc in omega arith)

  absent_none : value_at there t q ≡ None → shown (value_at there t q) ≡ negsuc 0
  unfolding shown
  absent_none e = rw e

  nobody : q < helds → ((holder_at there t q).who ≡ NOBODY) ↔ (value_at there t q ≡ None)
  nobody l = let n = (names there t q).nobody in (λ e. none-absent l (n.0 e), λ e. n.1 (absent_none e))

  safe : (holder_at there t q).who ≡ BY_FAILSAFE → Safe s calls t q
  safe e =
      let n = (names there t q).failsafe e in
      record { value = n.0; shows = shown-is (value_at there t q) n.0 n.1; because = n.2; until = n.2.until ∙ whole-end s calls }

  zone : q < helds → (z : ℕ) → (holder_at there t q).who ≡ z → 1 ≤ z → z < ids → SetItself s calls t q z
  zone l z e low high =
      let w : (holder_at here t q).who ≡ z = ap (λ (h : Holder). h.who) same ∙ e in
      let n = (names here t q).zone (omega arith) (omega arith) in
      let k = n.2 in
      let i : ℕ = k.0 in
      let p : i < slots = omega (arith, k.1, zones_length (run s calls)) in
      let x : Zone = get_or (zones_of (run s calls)) i free_zone in
      let m : NamesZone here t q n.0 x = k.3 in
      let mine : id_of x ≡ z = sym m.who ∙ w in
      let end : (held_of x q).until ≡ (holder_at there t q).until = sym m.until ∙ ap (λ (h : Holder). h.until) same in
      let held : held_of x q ≡ record { value = n.0; until = (holder_at there t q).until } = λ j. record { value = m.own j; until = end j } in
      let late : t < (holder_at there t q).until = omega (arith, k.2.1, end) in
      record {
        value = n.0;
        shows = sym (value_same here there alike t q) ∙ shown-is (value_at here t q) n.0 n.1;
        joined = subst (λ (y : ℕ). joined_by (history s calls) y ≡ true) mine ((agree_run s pairs calls).zones.there i p (is_joined-low x k.2.0)).told;
        unexpired = late;
        command = ⊎_elim
            (λ f. absurd (let none : (held_of x q).until ≡ 0 = ap (λ (h : Held). h.until) f in omega arith))
            (λ f. rw (mine, held) at f)
            ((released_slot s pairs calls).together i q p l x (zones_at (run s calls) i free_zone p) k.2.0);
      }

pub never_the_wrong_zone : NeverTheWrongZone
never_the_wrong_zone s pairs calls t q = record { same = same s pairs calls t q; nobody = nobody s pairs calls t q; failsafe = safe s pairs calls t q; zone = zone s pairs calls t q }
