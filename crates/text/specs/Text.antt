-- Numbers and bytes as text: decimal, signed decimal, lowercase hex. Assumes nothing: these are definitions.
use Rattle.std.specs.Prelude.{ℕ, zero, suc, ◌+◌, ◌/◌, ◌%◌, cond, List, [], ◌∷◌, ◌++◌, ltb, ℤ, pos, negsuc}

-- the low w decimal digits of a number, most significant first
unfoldable pub digits : ℕ → ℕ → List ℕ
digits zero n = []
digits (suc w) n = digits w (n / 10) ++ ((48 + n % 10) ∷ [])

-- how many digits a number below 10^(f + 1) has
unfoldable pub width_in : ℕ → ℕ → ℕ
width_in zero n = 1
width_in (suc f) n = cond (ltb n 10) 1 (suc (width_in f (n / 10)))

-- the most digits of a number of 64 bits
abbrev pub most_digits : ℕ
most_digits = 20

-- a number of 64 bits, with no leading zero
unfoldable pub decimal : ℕ → List ℕ
decimal n = digits (width_in 19 n) n

-- a minus sign stands before the digits of a negative number
unfoldable pub signed : ℤ → List ℕ
signed (pos n) = decimal n
signed (negsuc n) = 45 ∷ decimal (suc n)

-- 0 to 9, then a to f
unfoldable pub hex_digit : ℕ → ℕ
hex_digit n = cond (ltb n 10) (48 + n) (87 + n)

-- each byte as two digits
unfoldable pub hex : List ℕ → List ℕ
hex [] = []
hex (b ∷ s) = hex_digit (b / 16) ∷ hex_digit (b % 16) ∷ hex s
