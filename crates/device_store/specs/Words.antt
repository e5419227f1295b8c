-- The device as a list of words: a head, then the slots. Only `device_store` knows this layout; all else speaks of what these read.
use Rattle.std.specs.Prelude.{ℕ, ◌+◌, ◌*◌, Bool, cond, List, [], ◌∷◌, ltb, eqb, get_or, set, replicate}
use Rattle.std.proofs.lemmas.List.Edits.{sets}
use Rattle.device_store.specs.Sizes.{helds, slots, zone_size, marks, head_size, words}
use Rattle.device_store.specs.Zones.{up_to, free_zone}
use Rattle.device_store.specs.declared.Held.{Held}
use Rattle.device_store.specs.declared.Zone.{Zone}
use Rattle.device_store.specs.declared.Settings.{Settings}
use Rattle.device_store.specs.declared.Change.{Change}

-- the time of the last accepted call; since when no link is up; the override, 0 where none is set
abbrev pub clock_of : List ℕ → ℕ
clock_of ws = get_or ws 0 0

abbrev pub since_of : List ℕ → ℕ
since_of ws = get_or ws 1 0

abbrev pub override_of : List ℕ → ℕ
override_of ws = get_or ws 2 0

-- the settings that the device started with
unfoldable pub settings_of : List ℕ → Settings
settings_of ws =
    record {
      directions = get_or ws 3 0;
      limits = ltb 0 (get_or ws 4 0);
      setpoints = ltb 0 (get_or ws 5 0);
      minimum = get_or ws 6 0;
      maxima = get_or ws 7 0 ∷ get_or ws 8 0 ∷ [];
      failsafe = get_or ws 9 0 ∷ get_or ws 10 0 ∷ [];
      duration = get_or ws 11 0;
      manager = ltb 0 (get_or ws 12 0);
      phases = get_or ws 13 0;
      currents = ltb 0 (get_or ws 14 0);
    }

-- where a slot's words start
abbrev pub base : ℕ → ℕ
base i = head_size + i * zone_size

-- held value q of those that start at word p; the record in slot i; all slots
unfoldable pub held_in : List ℕ → ℕ → ℕ → Held
held_in ws p q = record { value = get_or ws (p + 2 * q) 0; until = get_or ws (p + 2 * q + 1) 0 }

unfoldable pub zone_at : List ℕ → ℕ → Zone
zone_at ws i =
    record {
      precedence = get_or ws (base i) 0;
      up = ltb 0 (get_or ws (base i + 1) 0);
      held = up_to (held_in ws (base i + 2)) helds;
    }

unfoldable pub zones_of : List ℕ → List Zone
zones_of ws = up_to (zone_at ws) slots

-- a flag as a word; a zone's words
unfoldable pub bit : Bool → ℕ
bit b = cond b 1 0

unfoldable pub held_words : List Held → List ℕ
held_words [] = []
held_words (h ∷ hs) = h.value ∷ h.until ∷ held_words hs

abbrev pub zone_words : Zone → List ℕ
zone_words x = x.precedence ∷ bit x.up ∷ held_words x.held

-- the words with a record stored in slot i; as they were where there is no such slot
unfoldable pub put_zone : List ℕ → ℕ → Zone → List ℕ
put_zone ws i x = cond (ltb i slots) (sets ws (base i) (zone_words x)) ws

-- a change applied: one slot's whole record, since when no link is up, the override and the clock
unfoldable pub applied : List ℕ → Change → List ℕ
applied ws c = set (set (set (put_zone ws c.slot c.zone) 1 c.since) 2 c.overridden) 0 c.time

-- a change of the clock and the override alone
unfoldable pub head_change : List ℕ → ℕ → ℕ → Change
head_change ws t o = record { time = t; slot = slots; zone = free_zone; since = since_of ws; overridden = o }

-- a call's effect: its change where its number is 0, nothing where it is refused
unfoldable pub after : List ℕ → ℕ → Change → List ℕ
after ws n c = cond (eqb n 0) (applied ws c) ws

-- a device with these settings, its clock 0, and no zone
unfoldable pub setting_words : Settings → List ℕ
setting_words s =
    s.directions ∷ bit s.limits ∷ bit s.setpoints ∷ s.minimum ∷ get_or s.maxima 0 0 ∷ get_or s.maxima 1 0
    ∷ get_or s.failsafe 0 0 ∷ get_or s.failsafe 1 0 ∷ s.duration ∷ bit s.manager ∷ s.phases
    ∷ bit s.currents ∷ []

unfoldable pub fresh : Settings → List ℕ
fresh s = sets (replicate words 0) marks (setting_words s)
