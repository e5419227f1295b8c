-- Each slot of a device that calls lead to holds what its own zone's calls say.
use mathlib.Core.Path.{◌≡◌, refl, sym, ap, ◌∙◌, subst}
use mathlib.Core.Logic.{◌⊎◌}
use mathlib.Core.List.{List}
use Prim.Native.Nat.{ℕ, ◌≤◌, ◌<◌}
use native.Mathlib.Omega.{arith}
use Rattle.device_store.specs.declared.Zone.{Zone}
use Rattle.device_store.specs.declared.Settings.{Settings}
use Rattle.device_store.specs.Sizes.{slots, helds}
use Rattle.device_store.specs.Zones.{id_of, free_zone, nothing, held_of}
use Rattle.device_store.specs.Words.{zone_at}
use Rattle.device_store.proofs.Lens.{zones_at}
use Rattle.demands.specs.Run.{Call, run}
use Rattle.demands.specs.History.{Log, record_by}
use Rattle.demands.specs.Accepted.{history, started_with, InPairs}
use Rattle.demands.specs.ReleasedSlot.{own_since, SetTogether, ReleasedSlot}
use Rattle.demands.proofs.Says.{held-of}
use Rattle.demands.proofs.Own.{record_own, set-together}
use Rattle.demands.proofs.Same.{is_joined-low}
use Rattle.demands.proofs.Agree.{Agree}
use Rattle.demands.proofs.Reached.{agree_run}

-- in words that agree with a log
slot_own : (s : Settings) (ws : List ℕ) (h : Log) → Agree s ws h → (i : ℕ) → i < slots → (x : Zone) → x ≡ zone_at ws i → 1 ≤ id_of x → x ≡ record_by s (own_since (id_of x) h) (id_of x)
slot_own s ws h a i p x e l =
    let f : x ≡ _ = e ∙ sym (zones_at ws i free_zone p) in
    let t = (a.zones.there i p (subst (λ (y : Zone). 1 ≤ id_of y) f l)).whole in
    subst (λ (y : Zone). y ≡ record_by s h (id_of y)) (sym f) t ∙ sym (record_own s h (id_of x))

held-together : (s : Settings) (h : Log) (z q : ℕ) → q < helds → (x : Zone) → x ≡ record_by s h z → (held_of x q ≡ nothing) ⊎ SetTogether s h z q (held_of x q)
held-together s h z q p x e = rw (e, held-of s h z q p) (set-together s h z q)

pub released_slot : (s : Settings) → InPairs s → (calls : List Call) → ReleasedSlot s calls
released_slot s k calls =
    record {
      own = λ i p x e j. mine calls i p x e (is_joined-low x j);
      together = λ i q p r x e j. held-together (started_with s) (own_since (id_of x) (history s calls)) (id_of x) q r x (mine calls i p x e (is_joined-low x j));
      alike = λ others i j z p q l e f o.
          let x = told calls i z p l e in
          let y = told others j z q l f in
          x ∙ ap (λ (h : Log). record_by (started_with s) h z) o ∙ sym y;
    }
  where
    mine : (calls : List Call) (i : ℕ) → i < slots → (x : Zone) → x ≡ zone_at (run s calls) i → 1 ≤ id_of x → x ≡ record_by (started_with s) (own_since (id_of x) (history s calls)) (id_of x)
    mine calls = slot_own (started_with s) (run s calls) (history s calls) (agree_run s k calls)

    told : (calls : List Call) (i z : ℕ) → i < slots → 0 < z → id_of (zone_at (run s calls) i) ≡ z → zone_at (run s calls) i ≡ record_by (started_with s) (own_since z (history s calls)) z
    told calls i z p l e = subst (λ (y : ℕ). zone_at (run s calls) i ≡ record_by (started_with s) (own_since y (history s calls)) y) e (mine calls i p (zone_at (run s calls) i) refl (omega arith))
