-- The text of an answer: "the refusal number or 0 a line; after an accepted plan, its rows".
use Rattle.std.specs.Prelude.{ℕ, zero, suc, List, [], ◌∷◌, ◌++◌, ℤ, pos, negsuc, take, drop}
use Rattle.text.specs.Text.{decimal}
use Rattle.kernel.specs.Door.{row_size}

-- a number of a row, "absent as `-`"
unfoldable pub cell : ℤ → List ℕ
cell (pos n) = decimal n
cell (negsuc n) = 45 ∷ []

-- a row's pieces: "numbers parted by one space", a newline behind the last
unfoldable pub row_pieces : List ℤ → List (List ℕ)
row_pieces [] = []
row_pieces (x ∷ []) = cell x ∷ (10 ∷ []) ∷ []
row_pieces (x ∷ y ∷ r) = cell x ∷ (32 ∷ []) ∷ row_pieces (y ∷ r)

-- so many rows
unfoldable pub table_pieces : ℕ → List ℤ → List (List ℕ)
table_pieces zero rs = []
table_pieces (suc n) rs = row_pieces (take row_size rs) ++ table_pieces n (drop row_size rs)

-- an answer's pieces
unfoldable pub answer_pieces : ℕ → ℕ → List ℤ → List (List ℕ)
answer_pieces number count rows = decimal number ∷ (10 ∷ []) ∷ table_pieces count rows
