-- A word as bytes in lowercase hex; `-` is none. Assumes nothing: these are definitions.
use Rattle.std.specs.Prelude.{ℕ, ◌+◌, ◌*◌, ◌/◌, ◌%◌, Bool, true, false, ◌&&◌, ◌||◌, cond, List, [], ◌∷◌, ltb, leb, eqb, length, get_or, Option, Some, None}
use Rattle.wire_bytes.specs.Bytes.{put}

-- 0 to 9, a to f
unfoldable pub is_hex : ℕ → Bool
is_hex b = (leb 48 b && leb b 57) || (leb 97 b && leb b 102)

unfoldable pub all_hex : List ℕ → Bool
all_hex [] = true
all_hex (b ∷ s) = cond (is_hex b) (all_hex s) false

-- a digit's value: its low four bits, and nine more for a letter
unfoldable pub nibble : ℕ → ℕ
nibble b = (b % 16 + b / 64 * 9) % 16

-- a byte for each two digits
unfoldable pub hex_bytes : List ℕ → List ℕ
hex_bytes [] = []
hex_bytes (a ∷ []) = []
hex_bytes (a ∷ b ∷ s) = (16 * nibble a + nibble b) ∷ hex_bytes s

-- `-`
unfoldable pub is_none : List ℕ → Bool
is_none s = eqb (length s) 1 && eqb (get_or s 0 0) 45

-- digits in pairs, at least one, of which the bytes fit into so many
unfoldable pub is_pairs : List ℕ → ℕ → Bool
is_pairs s room = ltb 0 (length s) && eqb (length s % 2) 0 && leb (length s / 2) room && all_hex s

-- the answer: how many bytes the word says, none where it is bad
unfoldable pub hex_read : List ℕ → ℕ → Option ℕ
hex_read s room = cond (is_none s || is_pairs s room) (Some (length s / 2)) None

-- the lent slice afterwards: the bytes at its front, unchanged for a bad word
unfoldable pub hex_after : List ℕ → List ℕ → List ℕ
hex_after s out = cond (is_none s || is_pairs s (length out)) (put out 0 (hex_bytes s)) out
