-- No concern of a client: the walk over a payload, the rows of the table beside the pairs of the map, by positions. The contracts of private functions cite
-- it; the contract of the reader cites the tree (measurement_table, Payload). Assumes nothing: these are definitions.
use Rattle.std.specs.Prelude.{ℕ, zero, suc, ◌+◌, ◌≡◌, Bool, true, false, cond, List, [], ◌∷◌, ◌++◌, eqb, ℤ, pos, negsuc}
use Rattle.std.specs.Prelude.{Some, None}
use Rattle.std.proofs.Math.Option.{Option, some, none, bind, map}
use Rattle.std.proofs.lemmas.List.Edits.{sets}
use Rattle.wire_heads.specs.Head.{HeadRead, head_at}
use Rattle.wire_cbor.specs.Item.{item_at, past_of}
use Rattle.wire_cbor.specs.Find.{seek_at}
use Rattle.wire_fields.specs.Ranges.{when_within}
use Rattle.wire_fields.specs.declared.ranges.Range.{Range}
use Rattle.measurement_table.specs.Table.{range_of, rows}
use Rattle.measurement_table.specs.Cells.{Cell, blanks}
use Rattle.measurement_table.specs.Words.{place, place_of, flat}
use Rattle.measurement_table.specs.declared.attributes.Row.{Row}
use Rattle.measurement_table.specs.declared.words.Place.{Place}

-- ANSWERS
-- the mark 3 where a cell is refused
unfoldable pub place_or : Option Cell → Place
place_or none = place 3 0
place_or (some c) = place_of c

-- what a reader into words answers and leaves: the words of its cells from word i on; where it refuses, what they hold is of no use
unfoldable pub Filled : Option (List Cell) → ℕ → List ℕ → Bool → List ℕ → Type 0
Filled (some cs) i ws ok ws' = (ok ≡ true) × (ws' ≡ sets ws i (flat cs))
Filled none i ws ok ws' = ok ≡ false

-- CELLS
-- a number of a range by its head
unfoldable pub number_by : Range → ℕ → ℕ → Option ℤ
number_by g m n = cond (eqb m 0) (when_within g (pos n)) (cond (eqb m 1) (when_within g (negsuc n)) none)

unfoldable pub number_from : Range → HeadRead → Option ℤ
number_from g (Some h) = number_by g h.major h.arg
number_from g None = none

-- a cell whose value a walk found at `at`, or did not find
unfoldable pub cell_at : List ℕ → Range → Bool → ℕ → Option Cell
cell_at s g there at = cond there (map (λ z. some z) (number_from g (head_at s at))) (some none)

-- where a walk goes on, behind the value that it found
unfoldable pub next_at : List ℕ → ℕ → Bool → ℕ → ℕ
next_at s d there at = cond there (past_of (item_at s d at)) at

-- ROWS
-- w phases from p on, with n pairs left at q; none is left behind them
unfoldable pub cells_at : List ℕ → ℕ → Range → ℕ → ℕ → ℕ → ℕ → Option (List Cell)
cells_at s d g zero p n q = cond (eqb n 0) (some []) none
cells_at s d g (suc w) p n q =
    bind (cell_at s g (seek_at s d p n q).there (seek_at s d p n q).at)
    (λ c. map (λ cs. c ∷ cs) (cells_at s d g w (p + 1) (seek_at s d p n q).left (next_at s d (seek_at s d p n q).there (seek_at s d p n q).at)))

unfoldable pub phases_from : List ℕ → ℕ → Range → ℕ → HeadRead → Option (List Cell)
phases_from s d g w (Some h) = cond (eqb h.major 5) (cond (eqb h.arg 0) none (cells_at s d g w 0 h.arg h.next)) none
phases_from s d g w None = none

-- a row whose value a walk found, or did not
unfoldable pub row_at : List ℕ → ℕ → Row → Bool → ℕ → Option (List Cell)
row_at s d r there at =
    cond (eqb r.1 1) (map (λ c. c ∷ []) (cell_at s (range_of r.2) there at))
    (cond there (phases_from s d (range_of r.2) r.1 (head_at s at)) (some (blanks r.1)))

-- the rows, with n pairs left at q, whose values have at most d + 1 levels
unfoldable pub rows_at : List ℕ → ℕ → List Row → ℕ → ℕ → Option (List Cell)
rows_at s d [] n q = some []
rows_at s d (r ∷ rs) n q =
    bind (row_at s d r (seek_at s (suc d) r.0 n q).there (seek_at s (suc d) r.0 n q).at)
    (λ a. map (λ b. a ++ b)
    (rows_at s d rs (seek_at s (suc d) r.0 n q).left (next_at s (suc d) (seek_at s (suc d) r.0 n q).there (seek_at s (suc d) r.0 n q).at)))

-- the rows of a payload that is a map, by its head
unfoldable pub payload_at : List ℕ → HeadRead → Option (List Cell)
payload_at s (Some h) = cond (eqb h.major 5) (rows_at s 6 rows h.arg h.next) none
payload_at s None = none
