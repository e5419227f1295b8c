-- What is proved of items and their encodings, and of walks over a map, each stated once. The proof of ItemExact is item_exact,
-- in proofs/, and so for the others. Assumes nothing: these are statements.
use Rattle.std.specs.Prelude.{ℕ, suc, ◌+◌, ◌^◌, ◌≤◌, ◌<◌, ◌≡◌, true, false, ◌↔◌, List, ◌++◌, length, drop}
use Rattle.std.proofs.Math.Option.{Option, some, none}
use Rattle.wire_bytes.specs.Bytes.{Bytes, Stands, put_whole}
use Rattle.wire_heads.specs.Head.{head_is, head_bytes, head_at, head_len, Within}
use Rattle.wire_cbor.specs.Item.{Item, Pairs, got, item_at, pairs_at, encode, Ok, OkPairs, levels, payload_of}
use Rattle.wire_cbor.specs.Find.{value_of, seek_at}
use Rattle.wire_cbor.specs.declared.pairs.Stop.{Stop}

-- an item whose encoding stands in a list is read there
abbrev pub ItemReadsBack : Type 0
ItemReadsBack = (s t : List ℕ) (d p : ℕ) (i : Item) → Ok i d → drop p s ≡ encode i ++ t → item_at s d p ≡ got i (p + length (encode i))

-- the items read are exactly the well-formed ones whose encodings stand there
abbrev pub ItemExact : Type 0
ItemExact = (s : List ℕ) → Bytes s → (d p e : ℕ) (i : Item) → (item_at s d p ≡ got i e) ↔ (Ok i d × Stands s p (encode i) e)

-- a payload is exactly the encoding of a well-formed item
abbrev pub PayloadExact : Type 0
PayloadExact = (s : List ℕ) → Bytes s → (i : Item) → (payload_of s ≡ some i) ↔ (Ok i levels × (encode i ≡ s))

-- one item's encoding never begins another's
abbrev pub NoneBeginsAnother : Type 0
NoneBeginsAnother = (d : ℕ) (i j : Item) (t u : List ℕ) → Ok i d → Ok j d → encode i ++ t ≡ encode j ++ u → i ≡ j

-- two items with one encoding are equal
abbrev pub OneItem : Type 0
OneItem = (d : ℕ) (i j : Item) → Ok i d → Ok j d → encode i ≡ encode j → i ≡ j

-- a walk has come to p, with n pairs left, which hold what the map holds under each key from lo on
pub record Walking (s : List ℕ) (d : ℕ) (all : Pairs) (lo p n : ℕ) : Type 0 where
  pub rest : Pairs
  pub end : ℕ
  pub reads : pairs_at s (item_at s d) n lo p ≡ got rest end
  pub same : (k : ℕ) → lo ≤ k → value_of rest k ≡ value_of all k

-- what a walk to a key finds where the map holds i or nothing under it, and from where it goes on
abbrev pub Sought : List ℕ → ℕ → Pairs → ℕ → Option Item → Stop → Type 0
Sought s d all key (some i) w = (w.there ≡ true) × (e : ℕ) × (item_at s d w.at ≡ got i e) × Walking s d all (key + 1) e w.left
Sought s d all key none w = (w.there ≡ false) × Walking s d all (key + 1) w.at w.left

-- a walk starts behind the head of a map
abbrev pub WalkStarts : Type 0
WalkStarts = (s : List ℕ) → Bytes s → (d p e : ℕ) (ps : Pairs) → item_at s (suc d) p ≡ got (Item.map ps) e → (n : ℕ) × (q : ℕ) × (head_at s p ≡ head_is 5 n q) × Walking s d ps 0 q n

-- a walk to a key finds exactly what the map holds under it, and goes on with the keys above
abbrev pub SeekExact : Type 0
SeekExact = (s : List ℕ) (d lo p n key : ℕ) (all : Pairs) → Walking s d all lo p n → lo ≤ key → Sought s d all key (value_of all key) (seek_at s d key n p)

-- maps that hold the same under each key are equal
abbrev pub SameValues : Type 0
SameValues = (ps qs : Pairs) (lo lo' d : ℕ) → OkPairs ps lo d → OkPairs qs lo' d → ((k : ℕ) → value_of ps k ≡ value_of qs k) → ps ≡ qs

-- a head that is written reads back
abbrev pub HeadWritten : Type 0
HeadWritten = (s : List ℕ) (p m v : ℕ) → Within m v → v < 2 ^ 64 → p + head_len v ≤ length s → head_at (put_whole s p (head_bytes m v)) p ≡ head_is m v (p + head_len v)

-- an item that is written reads back
abbrev pub ItemWritten : Type 0
ItemWritten = (s : List ℕ) (d p : ℕ) (i : Item) → Ok i d → p + length (encode i) ≤ length s → item_at (put_whole s p (encode i)) d p ≡ got i (p + length (encode i))
