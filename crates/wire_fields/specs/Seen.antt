-- What each reader answers of the head under a key: one answer for every head, for one that no item has too.
use Rattle.std.specs.Prelude.{Option, ℕ, ◌+◌, Bool, true, false, not, cond, ◌&&◌, ◌||◌, ltb, eqb}
use Rattle.wire_cbor.specs.declared.heads.KeyHead.{KeyHead}
use Rattle.wire_fields.specs.Ranges.{signed_bits, up_to_most}
use Rattle.wire_messages.specs.Options.{Amount}
use Rattle.wire_messages.specs.declared.Field.{Field}
use Rattle.wire_messages.specs.declared.Phases.{Phases}
use Rattle.wire_messages.specs.declared.CurrentResult.{CurrentResult}
use Rattle.wire_fields.specs.KeyHeads.{when_ok, number_seen, field_of, amount_of}
use Rattle.wire_fields.specs.ByPhase.{seen_of, phases_from, currents_from}
use Rattle.wire_fields.specs.declared.ranges.Range.{Range}

-- a number of a range, nothing, or null where that is allowed
abbrev pub numeric_seen : Range → Bool → KeyHead → Bool
numeric_seen g null k = cond (ltb k.major 2) (number_seen g k) (eqb k.major 8 || (null && (eqb k.major 7 && eqb k.arg 22)))

-- an unsigned number of at most `most`, or nothing where it need not be there
unfoldable pub uint_seen : Bool → ℕ → KeyHead → Bool
uint_seen must most k = (not must && eqb k.major 8) || number_seen (up_to_most most) k

-- false or true; true; a map
unfoldable pub truth_seen : KeyHead → Bool
truth_seen k = eqb k.major 7 && (eqb k.arg 20 || eqb k.arg 21)

unfoldable pub success_seen : KeyHead → Bool
success_seen k = eqb k.major 7 && eqb k.arg 21

unfoldable pub map_seen : KeyHead → Bool
map_seen k = eqb k.major 5

-- the number that must be there; the one that need not; which of false and true; a refusal is None
unfoldable pub uint_read : ℕ → KeyHead → Option ℕ
uint_read most k = when_ok (uint_seen true most k) k.arg

unfoldable pub amount_read : ℕ → KeyHead → Option Amount
amount_read most k = when_ok (uint_seen false most k) (amount_of k)

unfoldable pub truth_read : KeyHead → Option Bool
truth_read k = when_ok (truth_seen k) (eqb k.arg 21)

-- a signed number, null or nothing
unfoldable pub value_seen : Bool → KeyHead → Option Field
value_seen null k = when_ok (numeric_seen (signed_bits 64) null k) (field_of k)

-- a map of nothing but phases, each a number of a range, or null where that is allowed, or absent
abbrev pub phases_seen : Range → Bool → KeyHead → KeyHead → KeyHead → KeyHead → Bool
phases_seen g null k a b c =
    (eqb k.major 5 && eqb k.arg (seen_of a + (seen_of b + seen_of c))) && (numeric_seen g null a && (numeric_seen g null b && numeric_seen g null c))

unfoldable pub fields_seen : Bool → KeyHead → KeyHead → KeyHead → KeyHead → Option Phases
fields_seen null k a b c = when_ok (phases_seen (signed_bits 64) null k a b c) (phases_from (field_of a) (field_of b) (field_of c))

unfoldable pub amounts_seen : ℕ → KeyHead → KeyHead → KeyHead → KeyHead → Option CurrentResult
amounts_seen most k a b c = when_ok (phases_seen (up_to_most most) false k a b c) (currents_from (amount_of a) (amount_of b) (amount_of c))
