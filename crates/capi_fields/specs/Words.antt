-- A yes or a no as a word: a yes is any word but 0, and is given as 1.
use Rattle.std.specs.Prelude.{ℕ, Bool, not, cond, List, eqb, get_or}

-- the number at a place, and whether it is a yes
abbrev pub at : List ℕ → ℕ → ℕ
at ws k = get_or ws k 0

abbrev pub yes : List ℕ → ℕ → Bool
yes ws k = not (eqb (at ws k) 0)

abbrev pub word : Bool → ℕ
word b = cond b 1 0
