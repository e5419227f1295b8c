-- Lists: what the definitions of the report are made of.
use Rattle.std.specs.Prelude.{ℕ, ◌+◌, Bool, true, false, ◌&&◌, ◌||◌, cond, List, [], ◌∷◌, ◌++◌, leb, eqb, length, drop, get_or, set}
unfoldable pub use Rattle.refusals.specs.Refusals.{first_of}

-- n stands in the list
unfoldable pub member : ℕ → List ℕ → Bool
member n [] = false
member n (x ∷ xs) = eqb n x || member n xs

-- those that pass the test, in order
unfoldable pub keep : {A : Type 0} → (A → Bool) → List A → List A
keep p [] = []
keep p (x ∷ xs) = cond (p x) (x ∷ keep p xs) (keep p xs)

-- the flag of a number, false past the end; the flags with the one of a number set
abbrev pub flagged : List Bool → ℕ → Bool
flagged flags n = get_or flags n false

abbrev pub marked : List Bool → ℕ → List Bool
marked flags n = set flags n true

-- strictly ascending: each number is at least one more than the one before it, the first at least `least`
unfoldable pub ascends_from : ℕ → List ℕ → Bool
ascends_from least [] = true
ascends_from least (x ∷ xs) = leb least x && ascends_from (x + 1) xs

abbrev pub ascends : List ℕ → Bool
ascends xs = ascends_from 0 xs

-- a buffer with xs written over its front
unfoldable pub front : List ℕ → List ℕ → List ℕ
front xs buffer = xs ++ drop (length xs) buffer
