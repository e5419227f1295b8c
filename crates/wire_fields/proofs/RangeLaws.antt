-- Every reader of numbers goes by a range. Assumes nothing.
use Rattle.std.specs.Prelude.{Some}
use Prim.Native.Nat.{ℕ, ◌^◌, ◌≤◌, ◌<◌}
use mathlib.Core.Path.{◌≡◌, refl, sym, ap, ◌∙◌}
use mathlib.Core.Bool.{Bool, true, false, cond, ◌&&◌, ◌||◌}
use mathlib.Core.Option
use mathlib.Core.Option.{Option, some, none}
use native.Mathlib.Omega.{arith}
use native.Mathlib.Nat.{mod-eq_of_lt}
use lib.Dec.{ltb, leb, eqb}
use lib.IntN.{ℤ, pos, negsuc}
use borrow.Author.Tests.{ltb-true, ltb-false, leb-true, leb-false, lt-ltb, le-ltb}
use Rattle.wire_cbor.specs.Item.{Item, is_some}
use Rattle.wire_cbor.specs.Scan.{key_head_of}
use Rattle.wire_cbor.specs.declared.heads.KeyHead.{KeyHead}
use Rattle.wire_messages.specs.declared.Field.{Field}
use Rattle.wire_fields.specs.Fields.{number_up_to, in_range, signed, optional, value_in, amount_in}
use Rattle.wire_fields.specs.Ranges.{within, when_within, signed_bits, number_in, is_null, numeric}
use Rattle.wire_fields.specs.KeyHeads.{found, Reads, Tells, field_of, amount_of}
use Rattle.wire_fields.specs.Seen.{numeric_seen}
use Rattle.wire_fields.specs.Laws.{UpToByRange, SignedByRange, ValuesByRange, AmountsByRange}
use Rattle.wire_fields.specs.declared.ranges.Range.{Range}

-- NUMBERS
none-below_zero : (n : ℕ) → ltb n 0 ≡ false
none-below_zero n = le-ltb n 0 (omega arith)

pub up_to-by_range : UpToByRange
unfolding number_up_to number_in within
up_to-by_range most (Item.uint n) = go (leb n most)
  where
    go : (b : Bool) → Option.map pos (cond b (some n) none) ≡ cond b (some (pos n)) none
    go true = refl
    go false = refl
up_to-by_range most (Item.nint n) = rw (none-below_zero n) refl
up_to-by_range most (Item.bytes b) = refl
up_to-by_range most (Item.text b) = refl
up_to-by_range most (Item.array is) = refl
up_to-by_range most (Item.map ps) = refl
up_to-by_range most (Item.simple v) = refl

-- z of head value n is within 64 signed bits exactly where n is below 2^63
module _ (n : ℕ) (z : ℤ) (b : Bool) (yes : b ≡ true → n < 2 ^ 63) (no : b ≡ false → 2 ^ 63 ≤ n) where
  signed-within : in_range n z ≡ Option.map Field.Value (cond b (some z) none)
  signed-within = go b refl
    where
      go : (t : Bool) → b ≡ t → in_range n z ≡ Option.map Field.Value (cond t (some z) none)
      go true e = rw (lt-ltb n (2 ^ 63) (yes e)) refl
      go false e = rw (le-ltb n (2 ^ 63) (no e)) refl

  value_within : (null : Bool) (x : Field) → (n < 2 ^ 63 → x ≡ Field.Value z) → Option.map (λ (f : Field). f) (in_range n z) ≡ found (is_some (cond b (some z) none) || (null && false)) x
  value_within null x h = go b refl null
    where
      go : (t : Bool) → b ≡ t → (u : Bool) → Option.map (λ (f : Field). f) (in_range n z) ≡ found (is_some (cond t (some z) none) || (u && false)) x
      go true e u = rw (lt-ltb n (2 ^ 63) (yes e)) (ap some (sym (h (yes e))))
      go false e true = rw (le-ltb n (2 ^ 63) (no e)) refl
      go false e false = rw (le-ltb n (2 ^ 63) (no e)) refl

high_yes : (n : ℕ) → leb n 9223372036854775807 ≡ true → n < 2 ^ 63
high_yes n e = omega (arith, leb-true n 9223372036854775807 e)

high_no : (n : ℕ) → leb n 9223372036854775807 ≡ false → 2 ^ 63 ≤ n
high_no n e = omega (arith, leb-false n 9223372036854775807 e)

pub signed-by_range : SignedByRange
unfolding signed number_in within
signed-by_range (Item.uint n) = signed-within n (pos n) (leb n 9223372036854775807) (high_yes n) (high_no n)
signed-by_range (Item.nint n) = signed-within n (negsuc n) (ltb n (2 ^ 63)) (ltb-true n (2 ^ 63)) (ltb-false n (2 ^ 63))
signed-by_range (Item.bytes b) = refl
signed-by_range (Item.text b) = refl
signed-by_range (Item.array is) = refl
signed-by_range (Item.map ps) = refl
signed-by_range (Item.simple v) = go (eqb v 22)
  where
    go : (b : Bool) → ◌≡◌ {A = Option Field} (cond b none none) none
    go true = refl
    go false = refl

-- FIELDS
module _ (n : ℕ) (h : n < 2 ^ 63) where
  plain-field : field_of (key_head_of (some (Item.uint n))) ≡ Field.Value (pos n)
  unfolding field_of key_head_of
  plain-field = rw (mod-eq_of_lt h) refl

  minus_field : field_of (key_head_of (some (Item.nint n))) ≡ Field.Value (negsuc n)
  unfolding field_of key_head_of
  minus_field = rw (mod-eq_of_lt h) refl

-- what is no number may be null
no_number_lem : {X : Type 0} (null : Bool) (x : X) → none ≡ found (null && false) x
no_number_lem true x = refl
no_number_lem false x = refl

or_null : (null b : Bool) → Option.map (λ (f : Field). f) (cond b (cond null (some Field.Null) none) none) ≡ found (null && b) Field.Null
or_null true true = refl
or_null true false = refl
or_null false true = refl
or_null false false = refl

pub values-by_range : ValuesByRange
unfolding value_in optional signed numeric number_in within is_null field_of key_head_of
values-by_range null none = refl
values-by_range null (some (Item.uint n)) = value_within n (pos n) (leb n 9223372036854775807) (high_yes n) (high_no n) null _ (plain-field n)
values-by_range null (some (Item.nint n)) = value_within n (negsuc n) (ltb n (2 ^ 63)) (ltb-true n (2 ^ 63)) (ltb-false n (2 ^ 63)) null _ (minus_field n)
values-by_range null (some (Item.bytes b)) = no_number_lem null _
values-by_range null (some (Item.text b)) = no_number_lem null _
values-by_range null (some (Item.array is)) = no_number_lem null _
values-by_range null (some (Item.map ps)) = no_number_lem null _
values-by_range null (some (Item.simple v)) = or_null null (eqb v 22)

pub amounts_by_range : AmountsByRange
unfolding amount_in optional number_up_to numeric number_in within amount_of key_head_of
amounts_by_range most none = refl
amounts_by_range most (some (Item.uint n)) = go (leb n most)
  where
    go : (b : Bool) → Option.map Some (cond b (some n) none) ≡ found (is_some (cond b (some (pos n)) none) || false) (Some n)
    go true = refl
    go false = refl
amounts_by_range most (some (Item.nint n)) = rw (none-below_zero n) refl
amounts_by_range most (some (Item.bytes b)) = refl
amounts_by_range most (some (Item.text b)) = refl
amounts_by_range most (some (Item.array is)) = refl
amounts_by_range most (some (Item.map ps)) = refl
amounts_by_range most (some (Item.simple v)) = refl

-- BY WHAT IS SEEN
inside : (g : Range) (z : ℤ) (null : Bool) → (is_some (when_within g z) || (null && false)) ≡ within g z
inside g z null = go (within g z) null
  where
    go : (b u : Bool) → (is_some (cond b (some z) none) || (u && false)) ≡ b
    go true u = refl
    go false true = refl
    go false false = refl

-- a field, by its head
plain-within : (g : Range) (n : ℕ) → within g (pos n) ≡ leb n g.high
unfolding within
plain-within g n = refl

minus_within : (g : Range) (n : ℕ) → within g (negsuc n) ≡ ltb n g.below
unfolding within
minus_within g n = refl

numeric-seen : (g : Range) (null : Bool) (o : Option Item) → numeric g null o ≡ numeric_seen g null (key_head_of o)
unfolding numeric number_in is_null key_head_of
numeric-seen g null none = refl
numeric-seen g null (some (Item.uint n)) = inside g (pos n) null ∙ plain-within g n
numeric-seen g null (some (Item.nint n)) = inside g (negsuc n) null ∙ minus_within g n
numeric-seen g null (some (Item.bytes b)) = refl
numeric-seen g null (some (Item.text b)) = refl
numeric-seen g null (some (Item.array is)) = refl
numeric-seen g null (some (Item.map ps)) = refl
numeric-seen g null (some (Item.simple v)) = refl

pub number_tells : (g : Range) (null : Bool) (k : KeyHead) (r : Bool) → r ≡ numeric_seen g null k → Tells k (numeric g null) r
unfolding Tells
number_tells g null k r e o q = numeric-seen g null o ∙ ap (numeric_seen g null) (sym q) ∙ sym e

pub value_reads : (null : Bool) (k : KeyHead) (r : Bool) → Tells k (numeric (signed_bits 64) null) r → (f : Field) → f ≡ field_of k → Reads k (value_in null) r f
unfolding Tells Reads
value_reads null k r h f e o q = values-by_range null o ∙ rw (h o q, e, q) refl
