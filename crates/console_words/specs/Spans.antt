-- Where a line's words are, and when two are the same. Assumes nothing: these are definitions.
use Rattle.std.specs.Prelude.{ℕ, zero, suc, ◌+◌, ◌-◌, Bool, true, false, cond, ◌&&◌, List, [], ◌∷◌, leb, eqb, length, get_or, take, drop, Option, Some, None}
use Rattle.std.proofs.lemmas.List.Edits.{sets}
use Rattle.console_words.specs.Numbers.{at_most_largest}
use Rattle.console_words.specs.declared.spans.Bounds.{Bounds}

-- the position of the first byte b of a text that stands at p, or its end
unfoldable pub next_of : ℕ → ℕ → List ℕ → ℕ
next_of b p [] = p
next_of b p (x ∷ s) = cond (eqb x b) p (next_of b (suc p) s)

-- where the parts of a text end that stands at p, parted by one byte b
unfoldable pub ends_from : ℕ → ℕ → List ℕ → List ℕ
ends_from b p [] = p ∷ []
ends_from b p (x ∷ s) = cond (eqb x b) (p ∷ ends_from b (suc p) s) (ends_from b (suc p) s)

-- "Words are parted by one space"
abbrev pub word_ends : List ℕ → List ℕ
word_ends s = ends_from 32 0 s

-- the largest number of 64 bits: no count and no place is so large
abbrev pub largest : ℕ
largest = 18446744073709551615

-- how many words a line has; none where so many ends do not fit
unfoldable pub words_in : List ℕ → ℕ → Option ℕ
words_in s room = cond (leb (length (word_ends s)) room) (Some (length (word_ends s))) None

-- the lent slice afterwards: the ends at its front, as far as they fit
unfoldable pub ends_after : List ℕ → List ℕ → List ℕ
ends_after s ends = sets ends 0 (take (length ends) (word_ends s))

-- a word starts past the space behind the one before it
unfoldable pub start_of : List ℕ → ℕ → ℕ
start_of ends zero = 0
start_of ends (suc k) = at_most_largest (get_or ends k 0 + 1)

unfoldable pub span_of : List ℕ → ℕ → Bounds
span_of ends k = record { from = start_of ends k; to = get_or ends k 0 }

-- byte for byte
unfoldable pub same_bytes : List ℕ → List ℕ → Bool
same_bytes [] [] = true
same_bytes [] (b ∷ t) = false
same_bytes (a ∷ s) [] = false
same_bytes (a ∷ s) (b ∷ t) = cond (eqb a b) (same_bytes s t) false

-- whether word k of a line is w, by the ends of its words
unfoldable pub is_word : List ℕ → List ℕ → ℕ → List ℕ → Bool
is_word s ends k w =
    cond (leb (span_of ends k).to (length s) && leb (span_of ends k).from (span_of ends k).to)
    (same_bytes (take ((span_of ends k).to - (span_of ends k).from) (drop (span_of ends k).from s)) w)
    false

-- the words themselves
unfoldable pub longer : ℕ → List (List ℕ) → List (List ℕ)
longer x [] = (x ∷ []) ∷ []
longer x (w ∷ ws) = (x ∷ w) ∷ ws

unfoldable pub words_of : List ℕ → List (List ℕ)
words_of [] = [] ∷ []
words_of (x ∷ s) = cond (eqb x 32) ([] ∷ words_of s) (longer x (words_of s))

-- which of them is the same as w, counted from k on: the first that is
unfoldable pub place_from : ℕ → List ℕ → List (List ℕ) → Option ℕ
place_from k w [] = None
place_from k w (x ∷ ws) = cond (same_bytes w x) (Some k) (place_from (suc k) w ws)
