-- What the readers of a field make of it, by the head that is seen. Assumes nothing.
use Rattle.std.specs.Prelude
use Rattle.std.specs.Prelude.{None, Some}
use Prim.Native.Nat.{ℕ}
use mathlib.Core.Path.{◌≡◌, refl, ap, ◌∙◌}
use mathlib.Core.Bool.{Bool, true, false}
use mathlib.Core.Option.{Option, bind}
use Rattle.wire_cbor.specs.Item.{Item}
use Rattle.wire_cbor.specs.Scan.{key_head_of, pairs_in}
use Rattle.wire_fields.specs.Fields.{number_up_to, truth, map_in, needed, value_in, amount_in, success_in}
use Rattle.wire_fields.specs.ByPhase.{phases_in, phases_from, currents_in, currents_from, PhasesRead}
use Rattle.wire_fields.specs.Ranges.{signed_bits, up_to_most}
use Rattle.wire_fields.specs.KeyHeads.{found, when_ok, given, and_then, Reads, UintReads, MapReads, field_of, amount_of}
use Rattle.wire_fields.specs.Seen.{uint_seen, uint_read, amount_read, truth_seen, truth_read, success_seen, map_seen, value_seen, fields_seen, amounts_seen}
use Rattle.wire_fields.specs.Laws.{phase_key_head}
use Rattle.wire_fields.proofs.ByKeyHead.{uint_reads, truth_reads, success_reads, map-reads}
use Rattle.wire_fields.proofs.RangeLaws.{number_tells, value_reads, values-by_range, amounts_by_range}
use Rattle.wire_fields.proofs.PhaseLaws.{phases_seen_tell, phases-read}
use Rattle.wire_fields.proofs.Given.{then_some_is}

-- an answer with a test, as an Option
pub found_given : {X : Type 0} (ok : Bool) (x : X) → found ok x ≡ given (when_ok ok x)
found_given true x = refl
found_given false x = refl

-- one reader, then the rest
pub bind_given : {X Y : Type 0} {o : Option X} (r : Prelude.Option X) (g : X → Option Y) (h : X → Prelude.Option Y) → o ≡ given r → ((x : X) → g x ≡ given (h x)) → bind o g ≡ given (and_then r h)
unfolding bind
bind_given (Some x) g h e f = rw e (f x)
bind_given None g h e f = rw e refl

-- A FIELD
pub value_at : (null : Bool) (o : Option Item) → value_in null o ≡ given (value_seen null (key_head_of o))
unfolding value_seen Reads
value_at null o = value_reads null (key_head_of o) _ (number_tells _ null (key_head_of o) _ refl) _ refl o refl ∙ found_given _ _

pub uint_at : (most : ℕ) (o : Option Item) → needed (number_up_to most) o ≡ given (uint_read most (key_head_of o))
unfolding uint_read uint_seen UintReads Reads
uint_at most o = uint_reads true most (key_head_of o) _ refl o refl ∙ found_given _ _

pub amount_at : (most : ℕ) (o : Option Item) → amount_in most o ≡ given (amount_read most (key_head_of o))
unfolding amount_read uint_seen UintReads Reads
amount_at most o = uint_reads false most (key_head_of o) _ refl o refl ∙ found_given _ _

pub truth_at : (o : Option Item) → needed truth o ≡ given (truth_read (key_head_of o))
unfolding truth_read truth_seen Reads
truth_at o = truth_reads (key_head_of o) _ refl o refl ∙ found_given _ _

pub success_at : (o : Option Item) → success_in o ≡ given (when_ok (success_seen (key_head_of o)) true)
unfolding success_seen Reads
success_at o = success_reads (key_head_of o) _ refl o refl ∙ found_given _ _

pub map_at_head : (o : Option Item) → needed map_in o ≡ found (map_seen (key_head_of o)) (pairs_in o)
unfolding map_seen MapReads
map_at_head o = map-reads (key_head_of o) o refl

-- A MAP OF PHASES
pub phases_at : (null : Bool) (o : Option Item) → phases_in null o ≡ given (fields_seen null (key_head_of o) (phase_key_head o 0) (phase_key_head o 1) (phase_key_head o 2))
unfolding phases_in fields_seen PhasesRead
phases_at null o =
    phases-read (signed_bits 64) null (value_in null) field_of phases_from (values-by_range null) (key_head_of o) (phase_key_head o 0) (phase_key_head o 1) (phase_key_head o 2) _
    (phases_seen_tell (signed_bits 64) null _ _ _ _ _ refl) _ _ _ refl refl refl _ refl o refl refl refl refl
    ∙ ap given (then_some_is _ _)

pub currents_at : (most : ℕ) (o : Option Item) → currents_in most o ≡ given (amounts_seen most (key_head_of o) (phase_key_head o 0) (phase_key_head o 1) (phase_key_head o 2))
unfolding currents_in amounts_seen PhasesRead
currents_at most o =
    phases-read (up_to_most most) false (amount_in most) amount_of currents_from (amounts_by_range most) (key_head_of o) (phase_key_head o 0) (phase_key_head o 1) (phase_key_head o 2) _
    (phases_seen_tell (up_to_most most) false _ _ _ _ _ refl) _ _ _ refl refl refl _ refl o refl refl refl refl
    ∙ ap given (then_some_is _ _)
