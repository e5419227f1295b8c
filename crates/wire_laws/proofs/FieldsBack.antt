-- Each kind of field, written and read back. Assumes nothing.
use Rattle.std.specs.Prelude.{None, Some}
use Prim.Native.Nat.{ℕ, ◌+◌, ◌^◌, ◌≤◌, ◌<◌}
use mathlib.Core.Path.{◌≡◌, refl}
use mathlib.Core.Bool.{Bool, true, false}
use mathlib.Core.Option.{some, bind}
use native.Mathlib.Omega.{arith}
use lib.IntN.{pos, negsuc}
use lib.ListN.{length, length-append}
use borrow.Author.Tests.{le-leb, lt-ltb, leb-true, ltb-false}
use Rattle.wire_heads.specs.Head.{head_bytes}
use Rattle.wire_cbor.specs.Item.{Item, Ok, encode}
use Rattle.wire_heads.proofs.Widths.{head-length, head-short}
use Rattle.wire_messages.specs.declared.Field.{Field}
use Rattle.wire_messages.specs.Options.{Aim}
use Rattle.wire_messages.specs.Options.{Amount}
use Rattle.wire_fields.specs.Fields.{number_up_to, truth, signed, needed, optional, value_in, aim_in, amount_in, success_in, truth_item, value_item, aim_item, amount_item}
use Rattle.wire_requests.specs.WrittenRequests.{aim_wide}
use Rattle.wire_responses.specs.WrittenResponses.{amount_up_to}
use Rattle.wire_fields.specs.Puts.{field_bytes}
use Rattle.wire_laws.specs.RoundTrips.{Field64}
use Rattle.wire_laws.proofs.Maps.{OkField}

pub uint_back : (most v : ℕ) → v ≤ most → needed (number_up_to most) (some (Item.uint v)) ≡ some v
unfolding needed number_up_to
uint_back most v h = rw (le-leb v most h)

pub truth-back : (b : Bool) → needed truth (some (truth_item b)) ≡ some b
unfolding needed truth
truth-back true = refl
truth-back false = refl

pub success_back : success_in (some (truth_item true)) ≡ some true
unfolding success_in needed truth bind
success_back = refl

pub aim_back : (a : Aim) → aim_wide a ≡ false → aim_in (aim_item a) ≡ some a
unfolding aim_in aim_item optional number_up_to
aim_back None h = refl
aim_back (Some d) h = rw (le-leb d 1 (ltb-false 1 d h))

pub amount-back : (most : ℕ) (a : Amount) → amount_up_to most a ≡ true → amount_in most (amount_item a) ≡ some a
unfolding amount_in amount_item optional number_up_to
amount-back most None h = refl
amount-back most (Some v) h = rw h

-- null only where it is allowed
abbrev pub Allowed : Bool → Field → Type 0
Allowed null Field.Absent = Unit {0}
Allowed null Field.Null = null ≡ true
Allowed null (Field.Value z) = Unit {0}

pub value_back : (null : Bool) (f : Field) → Allowed null f → Field64 f → value_in null (value_item f) ≡ some f
unfolding value_in value_item optional signed
value_back null Field.Absent a h = refl
value_back null Field.Null a h = rw a
value_back null (Field.Value (pos n)) a h = rw (lt-ltb n (2 ^ 63) h)
value_back null (Field.Value (negsuc n)) a h = rw (lt-ltb n (2 ^ 63) h)

-- WELL FORMED AND SHORT
pub ok_uint : (v d : ℕ) → v < 2 ^ 64 → OkField (some (Item.uint v)) d
unfolding Ok
ok_uint v d h = h

pub ok_truth : (b : Bool) (d : ℕ) → OkField (some (truth_item b)) d
unfolding Ok
ok_truth true d = (omega arith, omega arith)
ok_truth false d = (omega arith, omega arith)

pub ok_aim : (a : Aim) (d : ℕ) → aim_wide a ≡ false → OkField (aim_item a) d
unfolding aim_item Ok
ok_aim None d h = tt
ok_aim (Some n) d h = omega (arith, ltb-false 1 n h)

pub ok_amount : (most : ℕ) (a : Amount) (d : ℕ) → most < 2 ^ 64 → amount_up_to most a ≡ true → OkField (amount_item a) d
unfolding amount_item Ok
ok_amount most None d g h = tt
ok_amount most (Some v) d g h = omega (arith, leb-true v most h)

pub ok_value : (f : Field) (d : ℕ) → Field64 f → OkField (value_item f) d
unfolding value_item Ok
ok_value Field.Absent d h = tt
ok_value Field.Null d h = (omega arith, omega arith)
ok_value (Field.Value (pos n)) d h = omega arith
ok_value (Field.Value (negsuc n)) d h = omega arith

-- a key and a head: at most 18 bytes
pair_short : (k m v : ℕ) → length (head_bytes 0 k) + length (head_bytes m v) ≤ 18
pair_short k m v = omega (arith, head-length 0 k, head-short k, head-length m v, head-short v)

pub short_uint : (k v : ℕ) → length (field_bytes k (some (Item.uint v))) ≤ 18
unfolding field_bytes encode
short_uint k v = rw length-append (pair_short k 0 v)

pub short_truth : (k : ℕ) (b : Bool) → length (field_bytes k (some (truth_item b))) ≤ 18
unfolding field_bytes encode
short_truth k true = rw length-append (pair_short k 7 21)
short_truth k false = rw length-append (pair_short k 7 20)

pub short_aim : (k : ℕ) (a : Aim) → length (field_bytes k (aim_item a)) ≤ 18
unfolding aim_item field_bytes
short_aim k None = omega arith
short_aim k (Some d) = short_uint k d

pub short_amount : (k : ℕ) (a : Amount) → length (field_bytes k (amount_item a)) ≤ 18
unfolding amount_item field_bytes
short_amount k None = omega arith
short_amount k (Some v) = short_uint k v

pub short_value : (k : ℕ) (f : Field) → length (field_bytes k (value_item f)) ≤ 18
unfolding value_item field_bytes encode
short_value k Field.Absent = omega arith
short_value k Field.Null = rw length-append (pair_short k 7 22)
short_value k (Field.Value (pos n)) = rw length-append (pair_short k 0 n)
short_value k (Field.Value (negsuc n)) = rw length-append (pair_short k 1 n)
