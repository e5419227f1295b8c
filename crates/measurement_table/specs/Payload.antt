-- Payloads of Measurement, read and written. Assumes nothing: these are definitions.
use Rattle.std.specs.Prelude.{ℕ, Bool, cond, not, ◌&&◌, List, [], ◌∷◌, length, leb, eqb}
use Rattle.std.proofs.Math.Option.{Option, some, none, bind}
use Rattle.wire_cbor.specs.Item.{Item, payload_of, is_some}
use Rattle.refusals.specs.Refusals.{first_of, BAD_CBOR, BAD_LENGTH, BAD_MESSAGE}
use Rattle.wire_fields.specs.Fields.{map_in, present}
use Rattle.measurement_table.specs.Table.{rows}
use Rattle.measurement_table.specs.Cells.{Cell, rows_in, fields_of}
use Rattle.measurement_table.specs.Words.{flat}

-- "a payload length outside 1 to 2,048" is 1
abbrev pub length_fits : List ℕ → Bool
length_fits s = leb 1 (length s) && leb (length s) 2048

-- the cells of a payload
unfoldable pub cells_of : List ℕ → Option (List Cell)
cells_of s = bind (payload_of s) (λ i. bind (map_in i) (rows_in rows))

-- "Refusals: 1 .., then 2, 3"; 0 where it is read
unfoldable pub read_number : List ℕ → ℕ
read_number s = first_of ((not (length_fits s), BAD_LENGTH) ∷ (not (is_some (payload_of s)), BAD_CBOR) ∷ (not (is_some (cells_of s)), BAD_MESSAGE) ∷ [])

-- the words of cells; without them the words as they were
unfoldable pub flat_or : List ℕ → Option (List Cell) → List ℕ
flat_or ws (some cs) = flat cs
flat_or ws none = ws

-- what a reader leaves in the words: "lent buffers stay unchanged at every refusal"
unfoldable pub read_after : List ℕ → List ℕ → List ℕ
read_after s ws = cond (eqb (read_number s) 0) (flat_or ws (cells_of s)) ws

-- the payload that is written for cells
unfoldable pub item_of : List Cell → Item
item_of cs = Item.map (present (fields_of rows cs))
