-- Cells: a number or nothing. What a map holds for the rows of a table, and the map written for them. `none` is refusal 3.
-- Assumes nothing: these are definitions.
use Rattle.std.specs.Prelude.{ℕ, zero, suc, ◌+◌, Bool, true, cond, ◌&&◌, List, [], ◌∷◌, ◌++◌, take, drop, eqb, ℤ}
use Rattle.std.proofs.Math.Option
use Rattle.std.proofs.Math.Option.{Option, some, none, bind}
use Rattle.wire_cbor.specs.Item.{Item, Pairs}
use Rattle.wire_cbor.specs.Find.{value_of}
use Rattle.wire_fields.specs.Fields.{int_item, Fields, present}
use Rattle.wire_fields.specs.Ranges.{within, number_in}
use Rattle.wire_fields.specs.ByPhase.{keys_below}
use Rattle.wire_fields.specs.declared.ranges.Range.{Range}
use Rattle.measurement_table.specs.Table.{range_of}
use Rattle.measurement_table.specs.declared.attributes.Row.{Row}

abbrev pub Cell : Type 0
Cell = Option ℤ

-- READING: "An attribute outside its written type is refused"
-- a number of a range, which may be absent
unfoldable pub cell_in : Range → Option Item → Option Cell
cell_in g none = some none
cell_in g (some i) = Option.map (λ z. some z) (number_in g i)

-- w of them under the keys p, p + 1 and so on
unfoldable pub cells_from : Range → ℕ → ℕ → Pairs → Option (List Cell)
cells_from g zero p qs = some []
cells_from g (suc w) p qs = bind (cell_in g (value_of qs p)) (λ c. Option.map (λ cs. c ∷ cs) (cells_from g w (p + 1) qs))

-- "The phase maps use 0 to 2 and are not empty": at least one key, each below w
unfoldable pub phases_in : Range → ℕ → Item → Option (List Cell)
phases_in g w (Item.uint n) = none
phases_in g w (Item.nint n) = none
phases_in g w (Item.bytes b) = none
phases_in g w (Item.text b) = none
phases_in g w (Item.array is) = none
phases_in g w (Item.map Pairs.empty) = none
phases_in g w (Item.map (Pairs.pair j i ps)) = cond (keys_below w (Pairs.pair j i ps)) (cells_from g w 0 (Pairs.pair j i ps)) none
phases_in g w (Item.simple v) = none

unfoldable pub blanks : ℕ → List Cell
blanks zero = []
blanks (suc n) = none ∷ blanks n

-- the cells of a row: all blank where the attribute is absent
unfoldable pub row_in : Row → Option Item → Option (List Cell)
row_in r none = some (blanks r.1)
row_in r (some i) = cond (eqb r.1 1) (Option.map (λ z. some z ∷ []) (number_in (range_of r.2) i)) (phases_in (range_of r.2) r.1 i)

-- the cells of a table, row by row; other keys are passed over
unfoldable pub rows_in : List Row → Pairs → Option (List Cell)
rows_in [] ps = some []
rows_in (r ∷ rs) ps = bind (row_in r (value_of ps r.0)) (λ a. Option.map (λ b. a ++ b) (rows_in rs ps))

-- WRITING: "Absent ones are left out"
unfoldable pub cell_item : Cell → Option Item
cell_item none = none
cell_item (some z) = some (int_item z)

unfoldable pub phase_fields : ℕ → List Cell → Fields
phase_fields p [] = []
phase_fields p (c ∷ cs) = (p, cell_item c) ∷ phase_fields (p + 1) cs

-- a map that holds something
unfoldable pub some_map : Pairs → Option Item
some_map Pairs.empty = none
some_map (Pairs.pair k i ps) = some (Item.map (Pairs.pair k i ps))

unfoldable pub first_item : List Cell → Option Item
first_item [] = none
first_item (c ∷ cs) = cell_item c

unfoldable pub row_item : Row → List Cell → Option Item
row_item r cs = cond (eqb r.1 1) (first_item cs) (some_map (present (phase_fields 0 cs)))

-- each row takes its cells
unfoldable pub fields_of : List Row → List Cell → Fields
fields_of [] cs = []
fields_of (r ∷ rs) cs = (r.0, row_item r (take r.1 cs)) ∷ fields_of rs (drop r.1 cs)

-- RANGES
unfoldable pub cell_fits : Range → Cell → Bool
cell_fits g none = true
cell_fits g (some z) = within g z

unfoldable pub cells_fit : Range → List Cell → Bool
cells_fit g [] = true
cells_fit g (c ∷ cs) = cell_fits g c && cells_fit g cs

-- each number is in the range of its row
unfoldable pub rows_fit : List Row → List Cell → Bool
rows_fit [] cs = true
rows_fit (r ∷ rs) cs = cells_fit (range_of r.2) (take r.1 cs) && rows_fit rs (drop r.1 cs)
