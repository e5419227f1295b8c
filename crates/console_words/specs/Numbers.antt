-- A word as a decimal number. Assumes nothing: these are definitions.
use Rattle.std.specs.Prelude.{ℕ, ◌+◌, ◌-◌, ◌*◌, ◌%◌, Bool, true, false, ◌&&◌, cond, List, [], ◌∷◌, ltb, leb, eqb, length, take, drop, get_or, Option, Some, None, option_map}
use Rattle.console_words.specs.declared.numbers.Number.{Number}

-- 0 to 9
unfoldable pub is_digit : ℕ → Bool
is_digit b = leb 48 b && leb b 57

-- the largest word stands for every number that 64 bits do not hold
unfoldable pub at_most_largest : ℕ → ℕ
at_most_largest n = cond (ltb n 18446744073709551616) n 18446744073709551615

abbrev pub no_number : Option Number
no_number = None

-- the number that digits say behind those of v; the low four bits of a digit are its value
unfoldable pub digits_from : ℕ → List ℕ → Option Number
digits_from v [] = Some (record { negative = false; value = v })
digits_from v (b ∷ s) = cond (is_digit b) (digits_from (at_most_largest (10 * v + b % 16)) s) no_number

-- at least one digit, leading zeros allowed
unfoldable pub digits_of : List ℕ → Option Number
digits_of [] = no_number
digits_of (b ∷ s) = digits_from 0 (b ∷ s)

-- "a minus sign is allowed": below zero is out of every range
unfoldable pub negated : Number → Number
negated n = cond (eqb n.value 0) n (record { negative = true; value = 18446744073709551615 })

unfoldable pub number_of : List ℕ → Option Number
number_of s = cond (eqb (get_or s 0 0) 45) (option_map negated (digits_of (drop 1 s))) (digits_of s)

-- the number of a word by its bounds; none where they are past the line
unfoldable pub number_in : List ℕ → ℕ → ℕ → Option Number
number_in s from to = cond (leb to (length s) && leb from to) (number_of (take (to - from) (drop from s))) no_number
