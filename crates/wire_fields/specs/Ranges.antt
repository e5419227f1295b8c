-- Whole numbers of a range, and the fields that hold one. `none` is refusal 3. Assumes nothing: these are definitions.
use Rattle.std.specs.Prelude.{ℕ, ◌^◌, ◌-◌, Bool, true, false, cond, ◌&&◌, ◌||◌, ltb, leb, eqb, ℤ, pos, negsuc}
use Rattle.std.proofs.Math.Option.{Option, some, none}
use Rattle.wire_cbor.specs.Item.{Item, is_some}
use Rattle.wire_fields.specs.declared.ranges.Range.{Range}

-- whether z is one of them: n where n ≤ high, -1 - n where n < below
unfoldable pub within : Range → ℤ → Bool
within g (pos n) = leb n g.high
within g (negsuc n) = ltb n g.below

abbrev pub range : ℕ → ℕ → Range
range b h = record { below = b; high = h }

-- those of w signed bits, w from 1 on: 2^(w - 1) of them below 0, and 2^(w - 1) - 1 the largest
abbrev pub signed_bits : ℕ → Range
signed_bits w = range (2 ^ (w - 1)) (2 ^ (w - 1) - 1)

-- those from 0 to `most`
abbrev pub up_to_most : ℕ → Range
up_to_most most = range 0 most

abbrev pub when_within : Range → ℤ → Option ℤ
when_within g z = cond (within g z) (some z) none

-- a number of a range; negsuc n is -1 - n
unfoldable pub number_in : Range → Item → Option ℤ
number_in g (Item.uint n) = when_within g (pos n)
number_in g (Item.nint n) = when_within g (negsuc n)
number_in g (Item.bytes b) = none
number_in g (Item.text b) = none
number_in g (Item.array is) = none
number_in g (Item.map ps) = none
number_in g (Item.simple v) = none

unfoldable pub is_null : Item → Bool
is_null (Item.uint v) = false
is_null (Item.nint v) = false
is_null (Item.bytes b) = false
is_null (Item.text b) = false
is_null (Item.array is) = false
is_null (Item.map ps) = false
is_null (Item.simple v) = eqb v 22

-- a field of such numbers: absent, one of them, or null where it is allowed
unfoldable pub numeric : Range → Bool → Option Item → Bool
numeric g null none = true
numeric g null (some i) = is_some (number_in g i) || (null && is_null i)
