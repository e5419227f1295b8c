-- Who holds each value comes from the history alone, and the zone that is named set it itself.
use Rattle.std.specs.Prelude.{ℕ, ◌+◌, ◌≤◌, ◌<◌, true, ◌↔◌, ◌≡◌, List, None, Some}
use Rattle.device_store.specs.Sizes.{ids, helds}
use Rattle.device_store.specs.declared.Settings.{Settings}
use Rattle.device_holds.specs.Holds.{situation_of, value_at}
use Rattle.device_holders.specs.Holders.{NOBODY, BY_FAILSAFE, holder_at}
use Rattle.device_holders.specs.Naming.{NamesFailsafe}
use Rattle.demands.specs.Run.{Call, run}
use Rattle.demands.specs.History.{joined_by}
use Rattle.demands.specs.Accepted.{InPairs, history, started_with, told}
use Rattle.demands.specs.ReleasedSlot.{own_since, SetTogether}

-- zone z is joined, shows the value v of quantity q, and one of its own accepted commands since it last joined set v with that end, past t
pub record SetItself (s : Settings) (calls : List Call) (t q z : ℕ) : Type 0 where
  pub value : ℕ
  pub shows : value_at (told s calls) t q ≡ Some value
  pub joined : joined_by (history s calls) z ≡ true
  pub unexpired : t < (holder_at (told s calls) t q).until
  pub command : SetTogether (started_with s) (own_since z (history s calls)) z q (record { value = value; until = (holder_at (told s calls) t q).until })

-- the failsafe is named with its very end, which has not come
pub record Safe (s : Settings) (calls : List Call) (t q : ℕ) : Type 0 where
  pub value : ℕ
  pub shows : value_at (told s calls) t q ≡ Some value
  pub because : NamesFailsafe (told s calls) t q value
  pub until : (holder_at (told s calls) t q).until ≡ (told s calls).since + (told s calls).settings.duration

-- in the device that calls lead to
pub record Blames (s : Settings) (calls : List Call) (t q : ℕ) : Type 0 where
  -- the slots, and the history's list of zones by their ids, name the same holder with the same end
  pub same : holder_at (situation_of (run s calls)) t q ≡ holder_at (told s calls) t q
  pub nobody : q < helds → ((holder_at (told s calls) t q).who ≡ NOBODY) ↔ (value_at (told s calls) t q ≡ None)
  pub failsafe : (holder_at (told s calls) t q).who ≡ BY_FAILSAFE → Safe s calls t q
  pub zone : q < helds → (z : ℕ) → (holder_at (told s calls) t q).who ≡ z → 1 ≤ z → z < ids → SetItself s calls t q z

-- "After any sequence of calls from a fresh device", at every second
abbrev pub NeverTheWrongZone : Type 0
NeverTheWrongZone = (s : Settings) → InPairs s → (calls : List Call) (t q : ℕ) → Blames s calls t q
