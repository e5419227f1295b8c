-- Words and what they say. Assumes nothing.
use Rattle.std.specs.Prelude.{◌≡◌, refl, true, false, [], ◌∷◌, Some}
use Rattle.console_words.specs.Numbers.{is_digit, at_most_largest, digits_from, digits_of, negated, number_of}
use Rattle.console_words.specs.Hex.{nibble, hex_bytes}

-- 007
sevens : number_of (48 ∷ 48 ∷ 55 ∷ []) ≡ Some (record { negative = false; value = 7 })
unfolding is_digit at_most_largest digits_from digits_of negated number_of
sevens = refl

-- -0 is zero, -1 is out of every range
minus_zero : number_of (45 ∷ 48 ∷ []) ≡ Some (record { negative = false; value = 0 })
unfolding is_digit at_most_largest digits_from digits_of negated number_of
minus_zero = refl

minus_one : number_of (45 ∷ 49 ∷ []) ≡ Some (record { negative = true; value = 18446744073709551615 })
unfolding is_digit at_most_largest digits_from digits_of negated number_of
minus_one = refl

-- 18446744073709551616
too_large : number_of (49 ∷ 56 ∷ 52 ∷ 52 ∷ 54 ∷ 55 ∷ 52 ∷ 52 ∷ 48 ∷ 55 ∷ 51 ∷ 55 ∷ 48 ∷ 57 ∷ 53 ∷ 53 ∷ 49 ∷ 54 ∷ 49 ∷ 54 ∷ []) ≡ Some (record { negative = false; value = 18446744073709551615 })
unfolding is_digit at_most_largest digits_from digits_of negated number_of
too_large = refl

-- 0 9 a f
bytes : hex_bytes (48 ∷ 57 ∷ 97 ∷ 102 ∷ []) ≡ 9 ∷ 175 ∷ []
unfolding nibble hex_bytes
bytes = refl
