-- "no released slot may speak for its new owner": what a slot holds is its zone's own.
use Rattle.std.specs.Prelude.{ℕ, ◌<◌, ◌≡◌, ◌⊎◌, Bool, true, false, cond}
use mathlib.Core.List.{List, [], ◌∷◌, Memᴰ}
use Rattle.wire_messages.specs.declared.Command.{Command}
use Rattle.device_store.specs.declared.Held.{Held}
use Rattle.device_store.specs.declared.Zone.{Zone}
use Rattle.device_store.specs.declared.Settings.{Settings}
use Rattle.command_effects.specs.declared.actions.Action.{Action}
use Rattle.device_store.specs.Sizes.{slots, helds}
use Rattle.device_store.specs.Zones.{id_of, nothing, is_joined, held_of}
use Rattle.device_store.specs.Words.{zone_at}
use Rattle.command_effects.specs.Effects.{action, until_of}
use Rattle.command_effects.specs.Says.{duration_of}
use Rattle.demands.specs.Run.{Call, run}
use Rattle.demands.specs.History.{Told, joins, leaves, links, commands, overrides, passes, Log, about, record_by}
use Rattle.demands.specs.Accepted.{history, started_with}

unfoldable pub is_join : Told → Bool
is_join (joins y k) = true
is_join (leaves y) = false
is_join (links y u) = false
is_join (commands y c) = false
is_join (overrides o) = false
is_join passes = false

-- zone z's own accepted calls since it last joined, that join included
unfoldable pub own_since : ℕ → Log → Log
own_since z [] = []
own_since z (e ∷ h) = cond (about z e.1) (e ∷ cond (is_join e.1) [] (own_since z h)) (own_since z h)

-- a held value with its end: set together by one command of zone z, among these calls
pub record SetTogether (s : Settings) (h : Log) (z q : ℕ) (x : Held) : Type 0 where
  pub time : ℕ
  pub command : Command
  pub value : ℕ
  pub accepted : Memᴰ (time, commands z command) h
  pub sets : action s command q ≡ Action.Put value
  pub both : x ≡ record { value = value; until = until_of time (duration_of command) }

-- in the device that calls lead to
pub record ReleasedSlot (s : Settings) (calls : List Call) : Type 0 where
  -- the whole record in a slot that a zone has (rank, link, each value with its end) is said by that zone's own calls since it last joined
  pub own : (i : ℕ) → i < slots → (x : Zone) → x ≡ zone_at (run s calls) i → is_joined x ≡ true
      → x ≡ record_by (started_with s) (own_since (id_of x) (history s calls)) (id_of x)
  -- a value stands beside the end that the same command of the same zone gave it
  pub together : (i q : ℕ) → i < slots → q < helds → (x : Zone) → x ≡ zone_at (run s calls) i → is_joined x ≡ true
      → (held_of x q ≡ nothing) ⊎ SetTogether (started_with s) (own_since (id_of x) (history s calls)) (id_of x) q (held_of x q)
  -- whatever other zones did, and whichever slot was free: after any other calls that have the same ones of zone z, its record is the same
  pub alike : (others : List Call) (i j z : ℕ) → i < slots → j < slots → 0 < z → id_of (zone_at (run s calls) i) ≡ z → id_of (zone_at (run s others) j) ≡ z
      → own_since z (history s calls) ≡ own_since z (history s others) → zone_at (run s calls) i ≡ zone_at (run s others) j
