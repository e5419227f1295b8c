-- A map from phases, A 0, B 1 and C 2, to values: read, and written. Assumes nothing: these are definitions.
use Rattle.std.specs.Prelude
use Rattle.std.specs.Prelude.{ℕ, ◌+◌, ◌*◌, ◌≡◌, Bool, true, cond, ◌&&◌, List, [], ◌∷◌, ◌++◌, ltb, eqb}
use Rattle.std.proofs.Math.Option.{Option, some, none, bind}
use Rattle.wire_cbor.specs.Item.{Item, Pairs, count_pairs, is_some}
use Rattle.wire_cbor.specs.Find.{value_of}
use Rattle.wire_cbor.specs.Scan.{key_head_of, pairs_in}
use Rattle.wire_cbor.specs.declared.heads.KeyHead.{KeyHead}
use Rattle.wire_messages.specs.declared.Field.{Field}
use Rattle.wire_messages.specs.Options.{Amount}
use Rattle.wire_messages.specs.declared.Phases.{Phases}
use Rattle.wire_messages.specs.declared.CurrentResult.{CurrentResult}
use Rattle.wire_fields.specs.Fields.{map_in, needed, value_in, amount_in, value_item, amount_item, Fields, present}
use Rattle.wire_fields.specs.Ranges.{numeric}
use Rattle.wire_fields.specs.Puts.{Puts, pair_room, pairs_of, key_head_bytes, key_head_pieces, put_each, past_each}
use Rattle.wire_fields.specs.KeyHeads.{given}
use Rattle.wire_fields.specs.declared.ranges.Range.{Range}

-- READING
-- how many phases a map names
unfoldable pub phases_named : Pairs → ℕ
phases_named ps = pairs_of (value_of ps 0) + (pairs_of (value_of ps 1) + pairs_of (value_of ps 2))

-- "a phase key above 2 is 3": a map has no more pairs than phases; OnlyPhases in Laws says it by the keys
unfoldable pub only_phases : Pairs → Bool
only_phases ps = eqb (count_pairs ps) (phases_named ps)

-- every key is below n
unfoldable pub keys_below : ℕ → Pairs → Bool
keys_below n Pairs.empty = true
keys_below n (Pairs.pair k i ps) = ltb k n && keys_below n ps

-- each phase as f reads it, all three as g joins them
unfoldable pub each_phase : {X Y : Type 0} → (Option Item → Option X) → (X → X → X → Y) → Pairs → Option Y
each_phase f g ps = bind (f (value_of ps 0)) (λ a. bind (f (value_of ps 1)) (λ b. bind (f (value_of ps 2)) (λ c. some (g a b c))))

-- a map that must be there, of nothing but phases
unfoldable pub by_phase : {X Y : Type 0} → (Option Item → Option X) → (X → X → X → Y) → Option Item → Option Y
by_phase f g o = bind (needed map_in o) (λ ps. cond (only_phases ps) (each_phase f g ps) none)

abbrev pub phases_from : Field → Field → Field → Phases
phases_from a b c = record { a = a; b = b; c = c }

abbrev pub currents_from : Amount → Amount → Amount → CurrentResult
currents_from a b c = record { a = a; b = b; c = c }

-- "a map of phase (A 0, B 1, C 2) to mA or null"; null only where it is allowed
unfoldable pub phases_in : Bool → Option Item → Option Phases
phases_in null o = by_phase (value_in null) phases_from o

-- "the effective map for that direction": numbers of at most `most`, without null
unfoldable pub currents_in : ℕ → Option Item → Option CurrentResult
currents_in most o = by_phase (amount_in most) currents_from o

-- whether it is such a map, each phase a number of a range, or null where that is allowed, or absent; every reader of phases goes by it (Laws)
unfoldable pub phases_fit : Range → Bool → Option Item → Bool
phases_fit g null o =
    is_some (needed map_in o)
    && (only_phases (pairs_in o) && (numeric g null (value_of (pairs_in o) 0) && (numeric g null (value_of (pairs_in o) 1) && numeric g null (value_of (pairs_in o) 2))))

-- how many pairs a head is of
abbrev pub seen_of : KeyHead → ℕ
seen_of k = cond (ltb k.major 8) 1 0

-- of every field that is seen as k, its phases as a, b and c, that test is true or false
unfoldable pub PhasesTell : KeyHead → KeyHead → KeyHead → KeyHead → (Option Item → Bool) → Bool → Type 0
PhasesTell k a b c f r =
    (o : Option Item) → k ≡ key_head_of o → a ≡ key_head_of (value_of (pairs_in o) 0) → b ≡ key_head_of (value_of (pairs_in o) 1) → c ≡ key_head_of (value_of (pairs_in o) 2)
    → f o ≡ r

-- of every field that is seen as k, its phases as a, b and c, f makes that answer
unfoldable pub PhasesRead : {Y : Type 0} → KeyHead → KeyHead → KeyHead → KeyHead → (Option Item → Option Y) → Prelude.Option Y → Type 0
PhasesRead k a b c f r =
    (o : Option Item) → k ≡ key_head_of o → a ≡ key_head_of (value_of (pairs_in o) 0) → b ≡ key_head_of (value_of (pairs_in o) 1) → c ≡ key_head_of (value_of (pairs_in o) 2)
    → f o ≡ given r

-- WRITING
-- the fields of a map of phases
abbrev pub phase_fields : Option Item → Option Item → Option Item → Fields
phase_fields a b c = (0, a) ∷ (1, b) ∷ (2, c) ∷ []

-- "absent phases left out and the map written even when empty"
abbrev pub phase_map : Option Item → Option Item → Option Item → Option Item
phase_map a b c = some (Item.map (present (phase_fields a b c)))

unfoldable pub phases_item : Phases → Option Item
phases_item p = phase_map (value_item p.a) (value_item p.b) (value_item p.c)

unfoldable pub currents_item : CurrentResult → Option Item
currents_item p = phase_map (amount_item p.a) (amount_item p.b) (amount_item p.c)

-- the key with the head of the map, and three phases
abbrev pub phases_room : ℕ
phases_room = 4 * pair_room

-- the pairs of a map of phases that are to be seen as a, b and c
abbrev pub phases_bytes : KeyHead → KeyHead → KeyHead → List ℕ
phases_bytes a b c = (key_head_bytes 0 a ++ key_head_bytes 1 b) ++ key_head_bytes 2 c

-- from s, written up to p, to t, written up to q: each piece of those pairs, and with room for three pairs the bytes that they are
pub record PutsPhases (s : List ℕ) (p : ℕ) (a b c : KeyHead) (t : List ℕ) (q : ℕ) : Type 0 where
  pub left : t ≡ put_each s p (key_head_pieces 0 a ++ (key_head_pieces 1 b ++ key_head_pieces 2 c))
  pub past : q ≡ past_each s p (key_head_pieces 0 a ++ (key_head_pieces 1 b ++ key_head_pieces 2 c))
  pub puts : Puts s p (phases_bytes a b c) (3 * pair_room) t q
