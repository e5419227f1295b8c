-- Who holds each value at a second: "where q shows v, the best-placed joined zone (smaller rank, then smaller id) whose own
-- unexpired value of q is v; else the failsafe; nobody where q is absent".
use Rattle.std.specs.Prelude.{ℕ, ◌+◌, Bool, cond, not, ◌&&◌, ◌||◌, ltb, eqb, ℤ, pos, negsuc, replicate, Result, Ok, Err}
use mathlib.Core.List.{List, [], ◌∷◌, foldl}
use Rattle.refusals.specs.Refusals.{first_of, BAD_TIME}
use Rattle.refusals.specs.Answers.{number_of}
use Rattle.refusals.specs.declared.refusal.Refusal.{Refusal}
use Rattle.device_store.specs.Sizes.{helds, ids, most}
use Rattle.device_store.specs.Zones.{up_to, id_of, free_zone, is_joined, held_of}
use Rattle.device_store.specs.Words.{clock_of}
use Rattle.device_store.specs.Smaller.{lesser}
use Rattle.device_store.specs.declared.Zone.{Zone}
use Rattle.device_rules.specs.Rules.{late}
use Rattle.device_holds.specs.Holds.{Situation, situation_of, value_at, shown}
use Rattle.device_holders.specs.declared.Holder.{Holder}

-- a joined zone's number is its id, 1 to 255; 0 is nobody, and the number past the largest id is the failsafe
abbrev pub NOBODY : ℕ
NOBODY = 0

abbrev pub BY_FAILSAFE : ℕ
BY_FAILSAFE = ids

-- "joined zone .. whose own unexpired value of q is v"
unfoldable pub holds_value : ℕ → ℕ → ℕ → Zone → Bool
holds_value t q v x = is_joined x && (ltb t (held_of x q).until && eqb (held_of x q).value v)

-- the best-placed zone so far, and one more that may pass the test p: "smaller rank, then smaller id" is the smaller precedence
unfoldable pub better_placed : (Zone → Bool) → Zone → Zone → Zone
better_placed p a x = cond (p x && (not (is_joined a) || ltb x.precedence a.precedence)) x a

-- the best-placed zone that passes, a free one where none does
unfoldable pub best_placed : (Zone → Bool) → List Zone → Zone
best_placed p zs = foldl (better_placed p) free_zone zs

-- a zone, with the end of its value; "else the failsafe", with its end as far as a word goes
unfoldable pub named : Situation → ℕ → Zone → Holder
named s q x =
    cond (is_joined x) (record { who = id_of x; until = (held_of x q).until })
    (record { who = BY_FAILSAFE; until = lesser most (s.since + s.settings.duration) })

abbrev pub nobody : Holder
nobody = record { who = NOBODY; until = 0 }

-- who holds what is shown of quantity q: "nobody where q is absent"
unfoldable pub holder_of : Situation → ℕ → ℕ → ℤ → Holder
holder_of s t q (pos v) = named s q (best_placed (holds_value t q v) s.zones)
holder_of s t q (negsuc n) = nobody

unfoldable pub holder_at : Situation → ℕ → ℕ → Holder
holder_at s t q = holder_of s t q (shown (value_at s t q))

-- "A second before the device's own, or past the end, is 5", and no other refusal
unfoldable pub holders_number : List ℕ → ℕ → ℕ
holders_number ws t = first_of ((late (clock_of ws) t, BAD_TIME) ∷ [])

-- an answer: its number, and the holder of each quantity
pub record Answer : Type 0 where
  pub number : ℕ
  pub holders : List Holder

-- what the call says, as such an answer; beside a refusal nobody
unfoldable pub holders_said : Result (List Holder) Refusal → Answer
holders_said (Ok hs) = record { number = 0; holders = hs }
holders_said (Err e) = record { number = number_of e; holders = replicate helds nobody }

-- the number, and the holder of each quantity; beside a refusal nobody
unfoldable pub holders_answer : List ℕ → ℕ → Answer
holders_answer ws t =
    record {
      number = holders_number ws t;
      holders = cond (eqb (holders_number ws t) 0) (up_to (holder_at (situation_of ws) t) helds) (replicate helds nobody);
    }
