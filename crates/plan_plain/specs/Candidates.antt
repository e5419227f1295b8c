-- The seconds at which what holds may change: "each expiry held, and .. the failsafe end".
use Rattle.std.specs.Prelude.{ℕ, ◌+◌, ◌*◌, ◌/◌, ◌%◌, cond, List, ltb, get_or}
use Rattle.device_store.specs.Sizes.{end, slots, helds}
use Rattle.device_store.specs.Zones.{up_to, free_zone, is_joined, held_of}
use Rattle.device_store.specs.declared.Zone.{Zone}
use Rattle.device_holds.specs.Holds.{Situation}

-- when quantity q of the zone in slot i ends; 0, which is past no second, where the slot is free or nothing is held
unfoldable pub expiry_at : List Zone → ℕ → ℕ → ℕ
expiry_at zs i q = cond (is_joined (get_or zs i free_zone)) (held_of (get_or zs i free_zone) q).until 0

-- the failsafe end, the end of time where it lies past it
unfoldable pub failsafe_end : ℕ → ℕ → ℕ
failsafe_end since duration = cond (ltb (since + duration) end) (since + duration) end

abbrev pub expiries : ℕ
expiries = slots * helds

-- the expiries slot by slot, then the failsafe end
unfoldable pub candidate_at : Situation → ℕ → ℕ
candidate_at s k = cond (ltb k expiries) (expiry_at s.zones (k / helds) (k % helds)) (failsafe_end s.since s.settings.duration)

unfoldable pub candidates_of : Situation → List ℕ
candidates_of s = up_to (candidate_at s) (expiries + 1)
