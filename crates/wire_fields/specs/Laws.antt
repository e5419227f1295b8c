-- What is proved of the definitions, each stated once. Assumes nothing: these are statements.
use Rattle.std.specs.Prelude.{ℕ, ◌≡◌, Bool, false, pos, negsuc, ◌-ℤ◌}
use Rattle.std.proofs.Math.Option.{Option, map}
use Rattle.wire_cbor.specs.Item.{Item, Pairs, OkPairs}
use Rattle.wire_cbor.specs.Find.{value_of}
use Rattle.wire_cbor.specs.Scan.{key_head_of, pairs_in}
use Rattle.wire_cbor.specs.declared.heads.KeyHead.{KeyHead}
use Rattle.wire_messages.specs.declared.Field.{Field}
use Rattle.wire_fields.specs.Fields.{number_up_to, signed, value_in, amount_in}
use Rattle.wire_fields.specs.Ranges.{up_to_most, signed_bits, number_in, numeric}
use Rattle.wire_fields.specs.KeyHeads.{found, field_of, amount_of}
use Rattle.wire_fields.specs.ByPhase.{only_phases, keys_below, phases_fit, by_phase}
use Rattle.wire_fields.specs.declared.ranges.Range.{Range}

abbrev pub phase_key_head : Option Item → ℕ → KeyHead
phase_key_head o k = key_head_of (value_of (pairs_in o) k)

-- negsuc n is -1 - n
abbrev pub MinusOneMinus : Type 0
MinusOneMinus = (n : ℕ) → negsuc n ≡ negsuc 0 -ℤ pos n

-- the readers of numbers are those of a range: unsigned ones up to `most`, signed ones of 64 bits
abbrev pub UpToByRange : Type 0
UpToByRange = (most : ℕ) (i : Item) → map pos (number_up_to most i) ≡ number_in (up_to_most most) i

abbrev pub SignedByRange : Type 0
SignedByRange = (i : Item) → signed false i ≡ map Field.Value (number_in (signed_bits 64) i)

-- a reader of fields goes by a range: it accepts those of its numbers, and makes of each what x makes of its head
abbrev pub ByRange : {X : Type 0} → Range → Bool → (Option Item → Option X) → (KeyHead → X) → Type 0
ByRange g null f x = (o : Option Item) → f o ≡ found (numeric g null o) (x (key_head_of o))

abbrev pub ValuesByRange : Type 0
ValuesByRange = (null : Bool) → ByRange (signed_bits 64) null (value_in null) field_of

abbrev pub AmountsByRange : Type 0
AmountsByRange = (most : ℕ) → ByRange (up_to_most most) false (amount_in most) amount_of

-- then so does that of the map of phases: there is one reader, over the range
abbrev pub PhasesByRange : Type 1
PhasesByRange =
    (X Y : Type 0) (g : Range) (null : Bool) (f : Option Item → Option X) (x : KeyHead → X) (join : X → X → X → Y) → ByRange g null f x → (o : Option Item)
    → by_phase f join o ≡ found (phases_fit g null o) (join (x (phase_key_head o 0)) (x (phase_key_head o 1)) (x (phase_key_head o 2)))

-- in a checked map, whose keys ascend, there is nothing but phases exactly where every key is below 3
abbrev pub OnlyPhases : Type 0
OnlyPhases = (ps : Pairs) (d : ℕ) → OkPairs ps 0 d → only_phases ps ≡ keys_below 3 ps
