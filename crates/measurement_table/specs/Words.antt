-- Cells as words, two each: the mark 0 for nothing, 1 for the number n, 2 for -1 - n; then n. Assumes nothing: these are definitions.
use Rattle.std.specs.Prelude.{ℕ, zero, suc, ◌+◌, ◌*◌, Bool, true, cond, ◌&&◌, List, [], ◌∷◌, get_or, leb, eqb, pos, negsuc}
use Rattle.std.proofs.Math.Option.{some, none}
use Rattle.measurement_table.specs.Table.{rows}
use Rattle.measurement_table.specs.Cells.{Cell, rows_fit}
use Rattle.measurement_table.specs.declared.words.Place.{Place}

abbrev pub place : ℕ → ℕ → Place
place m n = record { mark = m; size = n }

unfoldable pub place_of : Cell → Place
place_of none = place 0 0
place_of (some (pos n)) = place 1 n
place_of (some (negsuc n)) = place 2 n

unfoldable pub cell_of : ℕ → ℕ → Cell
cell_of m n = cond (eqb m 1) (some (pos n)) (cond (eqb m 2) (some (negsuc n)) none)

-- the words of cells
unfoldable pub flat : List Cell → List ℕ
flat [] = []
flat (c ∷ cs) = (place_of c).mark ∷ (place_of c).size ∷ flat cs

-- the cell that words hold at place i
unfoldable pub held_at : List ℕ → ℕ → Cell
held_at ws i = cell_of (get_or ws (2 * i) 0) (get_or ws (2 * i + 1) 0)

-- n of them from place i on
unfoldable pub held_from : List ℕ → ℕ → ℕ → List Cell
held_from ws zero i = []
held_from ws (suc n) i = held_at ws i ∷ held_from ws n (i + 1)

unfoldable pub held : List ℕ → List Cell
held ws = held_from ws 36 0

-- no mark of n places from place i on is above 2
unfoldable pub marks_fit : List ℕ → ℕ → ℕ → Bool
marks_fit ws zero i = true
marks_fit ws (suc n) i = leb (get_or ws (2 * i) 0) 2 && marks_fit ws n (i + 1)

-- refusal 3: a mark that means nothing, or a number out of its range
unfoldable pub range_number : List ℕ → ℕ
range_number ws = cond (marks_fit ws 36 0 && rows_fit rows (held ws)) 0 3
