-- A word as a list of attributes. Assumes nothing: these are definitions.
use Rattle.std.specs.Prelude.{ℕ, suc, Bool, ◌&&◌, cond, List, [], ◌∷◌, ltb, leb, eqb, length, take, Option, Some, None}
use Rattle.std.proofs.lemmas.List.Edits.{sets}
use Rattle.console_words.specs.Numbers.{number_in}
use Rattle.console_words.specs.Spans.{ends_from}
use Rattle.console_words.specs.Hex.{is_none}
use Rattle.console_words.specs.declared.numbers.Number.{Number}

-- "an attribute above 65,535" is bad
unfoldable pub is_attribute : Number → Bool
is_attribute n = ltb n.value 65536

-- the numbers that end there, the first from p on
unfoldable pub numbers_to : List ℕ → ℕ → List ℕ → List (Option Number)
numbers_to s p [] = []
numbers_to s p (e ∷ es) = number_in s p e ∷ numbers_to s (suc e) es

-- "attributes parted by commas": the numbers of a word from p on
unfoldable pub listed_from : List ℕ → ℕ → List ℕ → List (Option Number)
listed_from s p rest = numbers_to s p (ends_from 44 p rest)

abbrev pub listed : List ℕ → List (Option Number)
listed s = listed_from s 0 s

-- the attributes in front of the first part that is none
unfoldable pub attributes_of : List (Option Number) → List ℕ
attributes_of [] = []
attributes_of (None ∷ ns) = []
attributes_of (Some n ∷ ns) = cond (is_attribute n) (n.value ∷ attributes_of ns) []

-- the answer: how many attributes there are, none where one is bad or they do not fit
unfoldable pub list_read : List ℕ → ℕ → Option ℕ
list_read s room =
    cond (is_none s) (Some 0)
    (cond (eqb (length (attributes_of (listed s))) (length (listed s)) && leb (length (listed s)) room) (Some (length (listed s))) None)

-- the lent slice afterwards: the attributes at its front, as far as they are good and fit
unfoldable pub list_after : List ℕ → List ℕ → List ℕ
list_after s out = cond (is_none s) out (sets out 0 (take (length out) (attributes_of (listed s))))
