-- What a change leaves to be read: all that a history needs to know of the words.
use Prim.Native.Nat.{ℕ, zero, suc, ◌<◌, ◌≤◌}
use mathlib.Core.Path.{◌≡◌, refl, sym, ◌∙◌}
use mathlib.Core.List.{List, [], ◌∷◌}
use native.Mathlib.Omega.{arith}
use native.Mathlib.Nat.{le_of_suc-le-suc, not-suc-le-zero}
use lib.ListN.{length, get_or, set, replicate, length-set}
use lib.Seq.{get_or-set_same, get_or-set_other, ext_get_or}
use Rattle.device_store.specs.Sizes.{helds, slots, head_size, words}
use Rattle.device_store.specs.Zones.{up_to, free_zone}
use Rattle.device_store.specs.Words.{clock_of, since_of, override_of, settings_of, held_in, zone_at, zones_of, put_zone, applied, setting_words, fresh}
use Rattle.device_store.specs.declared.Settings.{Settings}
use Rattle.device_store.specs.declared.Change.{Change}
use Rattle.device_store.proofs.HeldWords.{bit-back}
use Rattle.device_store.proofs.Lens.{put-length, head-kept, zones_kept, zones_put}

-- the three words of the head that a change stores
module _ (us : List ℕ) (s o t : ℕ) where
  head-rest : (k : ℕ) → 3 ≤ k → get_or (set (set (set us 1 s) 2 o) 0 t) k 0 ≡ get_or us k 0
  head-rest k lo =
      get_or-set_other (set (set us 1 s) 2 o) 0 k t 0 (λ e. omega arith)
      ∙ get_or-set_other (set us 1 s) 2 k o 0 (λ e. omega arith)
      ∙ get_or-set_other us 1 k s 0 (λ e. omega arith)

  head-zones : zones_of (set (set (set us 1 s) 2 o) 0 t) ≡ zones_of us
  head-zones =
      zones_kept (set (set us 1 s) 2 o) 0 t (omega arith) ∙ zones_kept (set us 1 s) 2 o (omega arith) ∙ zones_kept us 1 s (omega arith)

  head-clock : 3 ≤ length us → get_or (set (set (set us 1 s) 2 o) 0 t) 0 0 ≡ t
  head-clock h = get_or-set_same (set (set us 1 s) 2 o) 0 t 0 (simp length-set (omega arith))

  head-since : 3 ≤ length us → get_or (set (set (set us 1 s) 2 o) 0 t) 1 0 ≡ s
  head-since h =
      get_or-set_other (set (set us 1 s) 2 o) 0 1 t 0 (λ e. omega arith)
      ∙ get_or-set_other (set us 1 s) 2 1 o 0 (λ e. omega arith)
      ∙ get_or-set_same us 1 s 0 (omega arith)

  head-override : 3 ≤ length us → get_or (set (set (set us 1 s) 2 o) 0 t) 2 0 ≡ o
  head-override h =
      get_or-set_other (set (set us 1 s) 2 o) 0 2 t 0 (λ e. omega arith) ∙ get_or-set_same (set us 1 s) 2 o 0 (simp length-set (omega arith))

pub applied-length : (ws : List ℕ) (c : Change) → length (applied ws c) ≡ length ws
unfolding applied
applied-length ws c = simp length-set (put-length ws c.slot c.zone)

applied-rest : (ws : List ℕ) (c : Change) (k : ℕ) → 3 ≤ k → k < head_size → get_or (applied ws c) k 0 ≡ get_or ws k 0
unfolding applied
applied-rest ws c k lo hi = head-rest (put_zone ws c.slot c.zone) c.since c.overridden c.time k lo ∙ head-kept ws c.slot c.zone k hi

-- settings hang on the rest of the head alone
settings-cong : (vs ws : List ℕ) → ((k : ℕ) → 3 ≤ k → k < head_size → get_or vs k 0 ≡ get_or ws k 0) → settings_of vs ≡ settings_of ws
unfolding settings_of
settings-cong vs ws same =
    rw (
      same 3 (omega arith) (omega arith),
      same 4 (omega arith) (omega arith),
      same 5 (omega arith) (omega arith),
      same 6 (omega arith) (omega arith),
      same 7 (omega arith) (omega arith),
      same 8 (omega arith) (omega arith),
      same 9 (omega arith) (omega arith),
      same 10 (omega arith) (omega arith),
      same 11 (omega arith) (omega arith),
      same 12 (omega arith) (omega arith),
      same 13 (omega arith) (omega arith),
      same 14 (omega arith) (omega arith),
    )

-- "settings that then stay"
pub applied-settings : (ws : List ℕ) (c : Change) → settings_of (applied ws c) ≡ settings_of ws
applied-settings ws c = settings-cong (applied ws c) ws (applied-rest ws c)

module _ (ws : List ℕ) (c : Change) (n : length ws ≡ words) where
  three : 3 ≤ length (put_zone ws c.slot c.zone)
  three = omega (arith, put-length ws c.slot c.zone)

  pub applied-clock : clock_of (applied ws c) ≡ c.time
  unfolding applied
  applied-clock = head-clock (put_zone ws c.slot c.zone) c.since c.overridden c.time three

  pub applied-since : since_of (applied ws c) ≡ c.since
  unfolding applied
  applied-since = head-since (put_zone ws c.slot c.zone) c.since c.overridden c.time three

  pub applied-override : override_of (applied ws c) ≡ c.overridden
  unfolding applied
  applied-override = head-override (put_zone ws c.slot c.zone) c.since c.overridden c.time three

  pub applied-zones : length c.zone.held ≡ helds → zones_of (applied ws c) ≡ set (zones_of ws) c.slot c.zone
  unfolding applied
  applied-zones full =
      head-zones (put_zone ws c.slot c.zone) c.since c.overridden c.time ∙ zones_put ws c.slot c.zone n full

two-list : (l : List ℕ) → length l ≡ 2 → get_or l 0 0 ∷ get_or l 1 0 ∷ [] ≡ l
two-list l e = ext_get_or 0 (get_or l 0 0 ∷ get_or l 1 0 ∷ []) l (sym e) (λ i h. at i h)
  where
    at : (i : ℕ) → i < 2 → get_or (get_or l 0 0 ∷ get_or l 1 0 ∷ []) i 0 ≡ get_or l i 0
    at zero h = refl
    at (suc zero) h = refl
    at (suc (suc i)) h = absurd (not-suc-le-zero (le_of_suc-le-suc (le_of_suc-le-suc h)))

-- a fresh device: its settings are read back, its clock is 0, no override is set, every slot is free
pub fresh-length : (s : Settings) → length (fresh s) ≡ words
unfolding fresh setting_words
fresh-length s = refl

pub fresh-clock : (s : Settings) → clock_of (fresh s) ≡ 0
unfolding fresh setting_words
fresh-clock s = refl

pub fresh-since : (s : Settings) → since_of (fresh s) ≡ 0
unfolding fresh setting_words
fresh-since s = refl

pub fresh-override : (s : Settings) → override_of (fresh s) ≡ 0
unfolding fresh setting_words
fresh-override s = refl

pub fresh-zones : (s : Settings) → zones_of (fresh s) ≡ replicate slots free_zone
unfolding fresh setting_words zones_of zone_at held_in up_to
fresh-zones s = refl

pub fresh-settings : (s : Settings) → length s.maxima ≡ 2 → length s.failsafe ≡ 2 → settings_of (fresh s) ≡ s
unfolding fresh setting_words settings_of
fresh-settings s m f =
    rw (bit-back s.limits, bit-back s.setpoints, bit-back s.manager, bit-back s.currents, two-list s.maxima m, two-list s.failsafe f)
