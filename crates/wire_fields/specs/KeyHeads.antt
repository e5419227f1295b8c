-- What the readers make of a field, told by what is seen of it. Assumes nothing: these are definitions.
use Rattle.std.specs.Prelude
use Rattle.std.specs.Prelude.{ℕ, ◌≡◌, Bool, true, false, cond, ◌&&◌, List, ltb, leb, eqb, None, Some}
use Rattle.std.proofs.Math.Option.{Option, some, none}
use Rattle.wire_cbor.specs.Item.{Item, Pairs}
use Rattle.wire_cbor.specs.Scan.{LEVELS, key_head_of, pairs_in, map_at, key_heads_along, words_of}
use Rattle.wire_cbor.specs.declared.heads.KeyHead.{KeyHead}
use Rattle.wire_messages.specs.Options.{Amount}
use Rattle.wire_messages.specs.Options.{Aim}
unfoldable pub use Rattle.wire_fields.specs.Values.{field_of, amount_of}
use Rattle.wire_fields.specs.Fields.{number_up_to, map_in, needed, amount_in}
use Rattle.wire_fields.specs.declared.ranges.Range.{Range}

-- ONE FIELD
-- an answer: x where it is ok, else refusal 3
abbrev pub found : {X : Type 0} → Bool → X → Option X
found ok x = cond ok (some x) none

-- the same as the code answers it, and as the definitions do
abbrev pub when_ok : {X : Type 0} → Bool → X → Prelude.Option X
when_ok ok x = cond ok (Some x) None

abbrev pub given : {X : Type 0} → Prelude.Option X → Option X
given (Some x) = some x
given None = none

-- one answer, then the rest
abbrev pub and_then : {X Y : Type 0} → Prelude.Option X → (X → Prelude.Option Y) → Prelude.Option Y
and_then (Some x) f = f x
and_then None f = None

-- of every field that is seen as k, f makes that answer
unfoldable pub Gives : {X : Type 0} → KeyHead → (Option Item → Option X) → Prelude.Option X → Type 0
Gives k f r = (o : Option Item) → k ≡ key_head_of o → f o ≡ given r

-- the same of a test and what is made of the head
unfoldable pub Reads : {X : Type 0} → KeyHead → (Option Item → Option X) → Bool → X → Type 0
Reads k f ok x = (o : Option Item) → k ≡ key_head_of o → f o ≡ found ok x

-- of every field that is seen as k, that test is true or false
unfoldable pub Tells : KeyHead → (Option Item → Bool) → Bool → Type 0
Tells k f r = (o : Option Item) → k ≡ key_head_of o → f o ≡ r

-- a number of a range
abbrev pub number_seen : Range → KeyHead → Bool
number_seen g k = cond (eqb k.major 0) (leb k.arg g.high) (eqb k.major 1 && ltb k.arg g.below)

-- an unsigned number of at most `most`, which must be there or may be absent
unfoldable pub UintReads : KeyHead → Bool → ℕ → Bool → Type 0
UintReads k true most ok = Reads k (needed (number_up_to most)) ok k.arg
UintReads k false most ok = Reads k (amount_in most) ok (amount_of k)

-- a map: its pairs are not seen with it
unfoldable pub MapReads : KeyHead → Bool → Type 0
MapReads k ok = (o : Option Item) → k ≡ key_head_of o → needed map_in o ≡ found ok (pairs_in o)

abbrev pub aim_of : Amount → Aim
aim_of None = None
aim_of (Some d) = Some d

-- ALL OF THEM
-- those under the small keys of the maps along a path, from ps on
unfoldable pub Shown : List ℕ → ℕ → Pairs → Type 0
Shown ws path ps = ws ≡ words_of (key_heads_along LEVELS path ps)

-- of every map seen at a level, f makes that answer
unfoldable pub Inside : {X : Type 0} → List ℕ → ℕ → (Pairs → Option X) → Prelude.Option X → Type 0
Inside ws level f r = (path : ℕ) (ps : Pairs) → Shown ws path ps → f (map_at level path ps) ≡ given r
