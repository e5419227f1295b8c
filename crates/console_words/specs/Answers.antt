-- The text of an answer: "its number, then what it says". Assumes nothing: these are definitions.
use Rattle.std.specs.Prelude.{ℕ, zero, suc, cond, List, [], ◌∷◌, ◌++◌, leb, eqb, ℤ, length, take}
use Rattle.text.specs.Text.{decimal, signed, hex}

-- `bad line`
unfoldable pub bad_line : List ℕ
bad_line = 98 ∷ 97 ∷ 100 ∷ 32 ∷ 108 ∷ 105 ∷ 110 ∷ 101 ∷ 10 ∷ []

-- a number alone
unfoldable pub number_pieces : ℕ → List (List ℕ)
number_pieces n = decimal n ∷ (10 ∷ []) ∷ []

-- the first n bytes in hex, `-` where there is none
unfoldable pub hex_or_none : List ℕ → ℕ → List ℕ
hex_or_none s n = cond (eqb n 0) (45 ∷ []) (cond (leb n (length s)) (hex (take n s)) [])

-- a number and bytes
unfoldable pub bytes_pieces : ℕ → List ℕ → ℕ → List (List ℕ)
bytes_pieces number s n = decimal number ∷ (32 ∷ []) ∷ hex_or_none s n ∷ (10 ∷ []) ∷ []

-- a space and a number, for each of the first n
unfoldable pub list_pieces : ℕ → List ℤ → List (List ℕ)
list_pieces zero l = []
list_pieces (suc n) [] = []
list_pieces (suc n) (x ∷ l) = (32 ∷ []) ∷ signed x ∷ list_pieces n l

-- a space, a group, a colon and a number
unfoldable pub pair_pieces : ℕ → ℕ → List (List ℕ)
pair_pieces g k = (32 ∷ []) ∷ decimal g ∷ (58 ∷ []) ∷ decimal k ∷ []

-- the first n pairs
unfoldable pub pairs_in : ℕ → List ℕ → List (List ℕ)
pairs_in zero l = []
pairs_in (suc n) [] = []
pairs_in (suc n) (g ∷ []) = []
pairs_in (suc n) (g ∷ k ∷ l) = pair_pieces g k ++ pairs_in n l

-- "the pairs as `group:number`, or `-`"
unfoldable pub report_pieces : ℕ → List ℕ → List (List ℕ)
report_pieces zero l = (32 ∷ 45 ∷ []) ∷ []
report_pieces (suc n) l = pairs_in (suc n) l
