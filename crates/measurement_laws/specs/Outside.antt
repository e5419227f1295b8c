-- "A value outside its range is never read and never written", and what the ranges are. The proof of NeverRead is never_read, in proofs/, and so
-- for the others. Assumes nothing: these are statements.
use Rattle.std.specs.Prelude.{ℕ, ◌-◌, ◌^◌, ◌≡◌, Bool, true, ◌&&◌, ◌↔◌, List, length, ℤ, pos, neg_ℤ}
use Rattle.std.proofs.Math.Option.{some}
use Rattle.std.specs.Int.Signed.{lt_z, le_z}
use Rattle.wire_cbor.specs.Item.{Item, Pairs}
use Rattle.wire_fields.specs.Fields.{int_item}
use Rattle.wire_fields.specs.Ranges.{within, range, signed_bits, up_to_most, number_in}
use Rattle.wire_fields.specs.declared.ranges.Range.{Range}
use Rattle.measurement_table.specs.Rows.{int64, uint64, uint32, int16, factor, percent}
use Rattle.measurement_table.specs.Table.{rows, places, range_of, unsigned_bits}
use Rattle.measurement_table.specs.Cells.{Cell, rows_in, rows_fit}
use Rattle.measurement_table.specs.Words.{held, range_number}
use Rattle.measurement_table.specs.Payload.{cells_of}
use Rattle.measurement_table.specs.declared.attributes.Row.{Row}

-- over any table: what is read has a cell for each place, and each number in the range of its row
abbrev pub RowsInside : Type 0
RowsInside = (rs : List Row) (ps : Pairs) (cs : List Cell) → rows_in rs ps ≡ some cs → (rows_fit rs cs ≡ true) × (length cs ≡ places rs)

abbrev pub NeverRead : Type 0
NeverRead = (s : List ℕ) (cs : List Cell) → cells_of s ≡ some cs → (rows_fit rows cs ≡ true) × (length cs ≡ 36)

abbrev pub NeverWritten : Type 0
NeverWritten = (ws : List ℕ) → range_number ws ≡ 0 → rows_fit rows (held ws) ≡ true

-- a number is read exactly where it is in the range, and of no item but its own
abbrev pub NumberExact : Type 0
NumberExact = (g : Range) (i : Item) (z : ℤ) → (number_in g i ≡ some z) ↔ ((i ≡ int_item z) × (within g z ≡ true))

-- every range is that of the whole numbers from -below to high
abbrev pub RangeExact : Type 0
RangeExact = (g : Range) (z : ℤ) → within g z ≡ (le_z (neg_ℤ (pos g.below)) z && le_z z (pos g.high))

-- -2^(w - 1) ≤ z < 2^(w - 1), and 0 ≤ z < 2^w
abbrev pub in_signed : ℕ → ℤ → Bool
in_signed w z = le_z (neg_ℤ (pos (2 ^ (w - 1)))) z && lt_z z (pos (2 ^ (w - 1)))

abbrev pub in_unsigned : ℕ → ℤ → Bool
in_unsigned w z = le_z (pos 0) z && lt_z z (pos (2 ^ w))

-- the ranges of w signed bits and of w bits, for every width
abbrev pub SignedExact : Type 0
SignedExact = (w : ℕ) (z : ℤ) → within (signed_bits w) z ≡ in_signed w z

abbrev pub UnsignedExact : Type 0
UnsignedExact = (w : ℕ) (z : ℤ) → within (unsigned_bits w) z ≡ in_unsigned w z

-- which width each kind of the table has; two have a range of their own
abbrev pub KindsByWidth : Type 0
KindsByWidth =
    (range_of int64 ≡ signed_bits 64) × (range_of uint64 ≡ unsigned_bits 64) × (range_of uint32 ≡ unsigned_bits 32) × (range_of int16 ≡ signed_bits 16)
    × (range_of factor ≡ range 1000 1000) × (range_of percent ≡ up_to_most 100)

-- so that an attribute of a kind is read and written exactly where the number lies in these
abbrev pub KindsExact : Type 0
KindsExact =
    (z : ℤ)
    → (within (range_of int64) z ≡ in_signed 64 z) × (within (range_of uint64) z ≡ in_unsigned 64 z)
    × (within (range_of uint32) z ≡ in_unsigned 32 z) × (within (range_of int16) z ≡ in_signed 16 z)
    × (within (range_of factor) z ≡ (le_z (neg_ℤ (pos 1000)) z && le_z z (pos 1000)))
    × (within (range_of percent) z ≡ (le_z (pos 0) z && le_z z (pos 100)))
