-- What is proved of reading and writing, each stated once. The proof of RowsReadBack is rows-read_back, in proofs/, and so for the others.
-- Assumes nothing: these are statements.
use Rattle.std.specs.Prelude.{ℕ, suc, ◌≡◌, true, List, [], ◌∷◌, length}
use Rattle.std.proofs.Math.Option.{some, none}
use Rattle.wire_bytes.specs.Bytes.{Bytes}
use Rattle.wire_cbor.specs.Item.{Item, Pairs, OkPairs, encode, payload_of}
use Rattle.wire_cbor.specs.Find.{value_of}
use Rattle.wire_fields.specs.Fields.{present}
use Rattle.measurement_table.specs.Table.{rows, places}
use Rattle.measurement_table.specs.Cells.{Cell, rows_in, fields_of, rows_fit}
use Rattle.measurement_table.specs.Words.{flat, held, range_number}
use Rattle.measurement_table.specs.Payload.{cells_of, read_number, read_after, item_of}
use Rattle.measurement_table.specs.declared.attributes.Row.{Row}
use Rattle.measurement_table.proofs.Order.{Rising}

-- OVER ANY TABLE
-- a key that no row has
abbrev pub Unknown : List Row → ℕ → Type 0
Unknown [] k = Unit {0}
Unknown (r ∷ rs) k = (r.0 ≡ k → ⊥) × Unknown rs k

-- "without unknown keys"
abbrev pub Known : List Row → Pairs → Type 0
Known rs ps = (k : ℕ) → Unknown rs k → value_of ps k ≡ none

-- two maps that hold the same under the number of each row
abbrev pub Alike : List Row → Pairs → Pairs → Type 0
Alike [] ps qs = Unit {0}
Alike (r ∷ rs) ps qs = (value_of ps r.0 ≡ value_of qs r.0) × Alike rs ps qs

-- unknown keys are passed over: such maps are read alike, whatever else they hold
abbrev pub OthersPassed : Type 0
OthersPassed = (rs : List Row) (ps qs : Pairs) → Alike rs ps qs → rows_in rs ps ≡ rows_in rs qs

-- the map that is written for cells in their ranges is read as those cells
abbrev pub RowsReadBack : Type 0
RowsReadBack = (rs : List Row) (cs : List Cell) (lo : ℕ) → Rising rs lo → length cs ≡ places rs → rows_fit rs cs ≡ true → rows_in rs (present (fields_of rs cs)) ≡ some cs

-- a map without unknown keys is written again for the cells that it is read as
abbrev pub RowsWriteAgain : Type 0
RowsWriteAgain =
    (rs : List Row) (ps : Pairs) (cs : List Cell) (lo d : ℕ) → Rising rs 0 → OkPairs ps lo (suc d) → Known rs ps → rows_in rs ps ≡ some cs
    → present (fields_of rs cs) ≡ ps

-- OF PAYLOADS
-- "What is written reads back equal"
abbrev pub ReadsBack : Type 0
ReadsBack = (cs : List Cell) → length cs ≡ 36 → rows_fit rows cs ≡ true → (read_number (encode (item_of cs)) ≡ 0) × (cells_of (encode (item_of cs)) ≡ some cs)

-- "what is read without unknown keys is written again byte for byte"
abbrev pub WritesAgain : Type 0
WritesAgain = (s : List ℕ) → Bytes s → (cs : List Cell) (ps : Pairs) → payload_of s ≡ some (Item.map ps) → Known rows ps → cells_of s ≡ some cs → encode (item_of cs) ≡ s

-- only one payload is written for cells, and one list of cells for a payload
abbrev pub OneMeasurement : Type 0
OneMeasurement =
    (cs ds : List Cell) → length cs ≡ 36 → length ds ≡ 36 → rows_fit rows cs ≡ true → rows_fit rows ds ≡ true → encode (item_of cs) ≡ encode (item_of ds) → cs ≡ ds

-- OF WORDS
-- the words of cells hold them
abbrev pub WordsExact : Type 0
WordsExact = (cs : List Cell) → length cs ≡ 36 → held (flat cs) ≡ cs

-- words that may be written, written and read back, hold what they held, whatever stood before in the words that they are read into
abbrev pub WordsReadBack : Type 0
WordsReadBack =
    (ws before : List ℕ) → range_number ws ≡ 0
    → (read_number (encode (item_of (held ws))) ≡ 0) × (read_after (encode (item_of (held ws))) before ≡ flat (held ws))
    × (held (read_after (encode (item_of (held ws))) before) ≡ held ws)

-- what is read can be written
abbrev pub WordsWritable : Type 0
WordsWritable = (s before : List ℕ) → read_number s ≡ 0 → range_number (read_after s before) ≡ 0

-- and is the same bytes again, where the payload has no unknown keys
abbrev pub WordsWriteAgain : Type 0
WordsWriteAgain =
    (s before : List ℕ) → Bytes s → (ps : Pairs) → payload_of s ≡ some (Item.map ps) → Known rows ps → read_number s ≡ 0
    → encode (item_of (held (read_after s before))) ≡ s

-- WHAT A READ LEAVES
-- "lent buffers stay unchanged at every refusal"
abbrev pub RefusedKeeps : Type 0
RefusedKeeps = (s before : List ℕ) → (read_number s ≡ 0 → ⊥) → read_after s before ≡ before

-- a payload that is read leaves the words of its cells and nothing of what stood there
abbrev pub ReadLeaves : Type 0
ReadLeaves = (s before : List ℕ) → read_number s ≡ 0 → (cs : List Cell) × (cells_of s ≡ some cs) × (read_after s before ≡ flat cs)
