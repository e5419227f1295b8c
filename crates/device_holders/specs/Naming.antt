-- A log can never blame the wrong zone: what the holder that is named for a value promises, in every situation at every second.
use Rattle.std.specs.Prelude.{ℕ, ◌+◌, ◌<◌, ◌≤◌, true, false, ◌↔◌, ◌≡◌, pos, negsuc, get_or}
use Rattle.device_store.specs.Quantities.{is_limit, is_setpoint}
use Rattle.device_store.specs.Sizes.{ids, most}
use Rattle.device_store.specs.Zones.{id_of, any_joined, any_up, held_of}
use Rattle.device_store.specs.declared.Zone.{Zone}
use Rattle.device_store.specs.Smaller.{lesser}
use Rattle.device_holds.specs.Holds.{Situation, value_at, shown}
use Rattle.device_holds.specs.Table.{Some, Each, NoBetter}
use Rattle.device_holders.specs.Holders.{NOBODY, BY_FAILSAFE, holder_at}

-- quantity q shows the value v; it shows none
abbrev pub Shows : Situation → ℕ → ℕ → ℕ → Type 0
Shows s t q v = shown (value_at s t q) ≡ pos v

abbrev pub ShowsNone : Situation → ℕ → ℕ → Type 0
ShowsNone s t q = shown (value_at s t q) ≡ negsuc 0

-- a zone with an unexpired value, x, is named for the value v
pub record NamesZone (s : Situation) (t q v : ℕ) (x : Zone) : Type 0 where
  pub who : (holder_at s t q).who ≡ id_of x
  pub until : (holder_at s t q).until ≡ (held_of x q).until
  -- its own value is exactly the one that is shown
  pub own : (held_of x q).value ≡ v
  -- no better-placed joined zone holds that value; for a setpoint no better-placed one holds any
  pub first : Each t q s.zones (λ y. (held_of y q).value ≡ v → NoBetter x y)
  pub setpoint : is_setpoint q ≡ true → Each t q s.zones (λ y. NoBetter x y)

-- the failsafe is named for the value v: only while it lasts, of a power limit, and where every zone's limit is larger
pub record NamesFailsafe (s : Situation) (t q v : ℕ) : Type 0 where
  pub down : any_up s.zones ≡ false
  pub joined : any_joined s.zones ≡ true
  pub lasts : t < s.since + s.settings.duration
  pub limit : is_limit q ≡ true
  pub own : get_or s.settings.failsafe q 0 ≡ v
  pub larger : Each t q s.zones (λ y. v < (held_of y q).value)
  pub until : (holder_at s t q).until ≡ lesser most (s.since + s.settings.duration)

pub record Names (s : Situation) (t q : ℕ) : Type 0 where
  -- nobody exactly where the value is absent
  pub nobody : ((holder_at s t q).who ≡ NOBODY) ↔ ShowsNone s t q
  pub zone : 1 ≤ (holder_at s t q).who → (holder_at s t q).who < ids → (v : ℕ) × Shows s t q v × Some t q s.zones (NamesZone s t q v)
  pub failsafe : (holder_at s t q).who ≡ BY_FAILSAFE → (v : ℕ) × Shows s t q v × NamesFailsafe s t q v
  -- and there is no other number
  pub only : (holder_at s t q).who ≤ BY_FAILSAFE
