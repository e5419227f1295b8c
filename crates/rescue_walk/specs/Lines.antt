-- The text of a report, and of a refusal. Assumes nothing: these are definitions.
use Rattle.std.specs.Prelude.{ℕ, ◌*◌, cond, List, [], ◌∷◌, ◌++◌, eqb, take}
use Rattle.text.specs.Text.{decimal}

-- a run's offset and length in decimal, parted by one space
unfoldable pub line_pieces : ℕ → ℕ → List (List ℕ)
line_pieces offset len = decimal offset ∷ (32 ∷ []) ∷ decimal len ∷ (10 ∷ []) ∷ []

-- "lists, in order, each longest run": a line for each two numbers
unfoldable pub lines_in : List ℕ → List (List ℕ)
lines_in [] = []
lines_in (x ∷ []) = []
lines_in (x ∷ y ∷ l) = line_pieces x y ++ lines_in l

-- `refused `, the number, a newline
unfoldable pub refusal_pieces : ℕ → List (List ℕ)
refusal_pieces n = (114 ∷ 101 ∷ 102 ∷ 117 ∷ 115 ∷ 101 ∷ 100 ∷ 32 ∷ []) ∷ decimal n ∷ (10 ∷ []) ∷ []

-- WHAT IS SAID: the first runs of the report, or the refusal
unfoldable pub text_pieces : ℕ → ℕ → List ℕ → List (List ℕ)
text_pieces number runs l = cond (eqb number 0) (lines_in (take (2 * runs) l)) (refusal_pieces number)
