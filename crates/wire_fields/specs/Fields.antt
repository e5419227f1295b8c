-- The fields of a map: what stands under a key, read as a number, a truth or a map, and the items that are written for them.
-- `none` is refusal 3: "a needed key is missing, or a known key has a wrong type or range". Assumes nothing: these are definitions.
use Rattle.std.specs.Prelude.{ℕ, ◌^◌, ◌-◌, Bool, true, false, cond, List, [], ◌∷◌, ltb, leb, eqb, ℤ, pos, negsuc, None, Some}
use Rattle.std.proofs.Math.Option
use Rattle.std.proofs.Math.Option.{Option, some, none, bind}
use Rattle.wire_cbor.specs.Item.{Item, Pairs}
use Rattle.wire_messages.specs.declared.Field.{Field}
use Rattle.wire_messages.specs.Options.{Amount}
use Rattle.wire_messages.specs.Options.{Aim}

-- THE KINDS OF VALUE
-- an unsigned number, at most `most`
unfoldable pub number_up_to : ℕ → Item → Option ℕ
number_up_to most (Item.uint v) = cond (leb v most) (some v) none
number_up_to most (Item.nint v) = none
number_up_to most (Item.bytes b) = none
number_up_to most (Item.text b) = none
number_up_to most (Item.array is) = none
number_up_to most (Item.map ps) = none
number_up_to most (Item.simple v) = none

-- false or true
unfoldable pub truth : Item → Option Bool
truth (Item.uint v) = none
truth (Item.nint v) = none
truth (Item.bytes b) = none
truth (Item.text b) = none
truth (Item.array is) = none
truth (Item.map ps) = none
truth (Item.simple v) = cond (eqb v 20) (some false) (cond (eqb v 21) (some true) none)

-- a map
unfoldable pub map_in : Item → Option Pairs
map_in (Item.uint v) = none
map_in (Item.nint v) = none
map_in (Item.bytes b) = none
map_in (Item.text b) = none
map_in (Item.array is) = none
map_in (Item.map ps) = some ps
map_in (Item.simple v) = none

-- the number z of head value n, where 64 signed bits hold it
abbrev pub in_range : ℕ → ℤ → Option Field
in_range n z = cond (ltb n (2 ^ 63)) (some (Field.Value z)) none

-- "Negative whole numbers are read exactly, down to -2^63": negsuc n is -1 - n; null only where it is allowed
unfoldable pub signed : Bool → Item → Option Field
signed null (Item.uint v) = in_range v (pos v)
signed null (Item.nint v) = in_range v (negsuc v)
signed null (Item.bytes b) = none
signed null (Item.text b) = none
signed null (Item.array is) = none
signed null (Item.map ps) = none
signed null (Item.simple v) = cond (eqb v 22) (cond null (some Field.Null) none) none

-- a key that must be there
unfoldable pub needed : {X : Type 0} → (Item → Option X) → Option Item → Option X
needed f (some i) = f i
needed f none = none

-- a key that may be absent, which is then read as x; its value is kept as g makes it
unfoldable pub optional : {X Y : Type 0} → X → (Y → X) → (Item → Option Y) → Option Item → Option X
optional x g f (some i) = Option.map g (f i)
optional x g f none = some x

-- THE KINDS OF FIELD: the value under the key is given
-- "32 bits"
abbrev pub most32 : ℕ
most32 = 2 ^ 32 - 1

-- "Limits and setpoints: whole mW, 0 to 2^63 - 1"
abbrev pub most_value : ℕ
most_value = 2 ^ 63 - 1

-- "Each limit field is absent, null or a number"; setpoints are "without null"
unfoldable pub value_in : Bool → Option Item → Option Field
value_in null o = optional Field.Absent (λ f. f) (signed null) o

-- "an optional direction (key 1, 0 or 1)"
unfoldable pub aim_in : Option Item → Option Aim
aim_in o = optional None Some (number_up_to 1) o

-- a value of a response, left out when absent
unfoldable pub amount_in : ℕ → Option Item → Option Amount
amount_in most o = optional None Some (number_up_to most) o

-- "a false where true is shown" is refused
abbrev pub only_true : Bool → Option Bool
only_true b = cond b (some true) none

unfoldable pub success_in : Option Item → Option Bool
success_in o = bind (needed truth o) only_true

-- THE ITEMS WRITTEN FOR THEM, none where the key is left out
abbrev pub int_item : ℤ → Item
int_item (pos n) = Item.uint n
int_item (negsuc n) = Item.nint n

abbrev pub truth_item : Bool → Item
truth_item false = Item.simple 20
truth_item true = Item.simple 21

unfoldable pub value_item : Field → Option Item
value_item Field.Absent = none
value_item Field.Null = some (Item.simple 22)
value_item (Field.Value z) = some (int_item z)

unfoldable pub aim_item : Aim → Option Item
aim_item None = none
aim_item (Some d) = some (Item.uint d)

unfoldable pub amount_item : Amount → Option Item
amount_item None = none
amount_item (Some v) = some (Item.uint v)

-- A MAP AS A LIST OF FIELDS: each key with its item, or with none
abbrev pub Fields : Type 0
Fields = List (ℕ × Option Item)

abbrev pub with_field : ℕ → Option Item → Pairs → Pairs
with_field k (some i) ps = Pairs.pair k i ps
with_field k none ps = ps

-- the pairs that are there; absent ones are left out
unfoldable pub present : Fields → Pairs
present [] = Pairs.empty
present (f ∷ fs) = with_field f.0 f.1 (present fs)

-- a map of the fields that are there
abbrev pub map_item : Fields → Option Item
map_item fs = some (Item.map (present fs))
