-- Numbers as bytes, most significant first, and bytes stored in a list. Assumes nothing: these are definitions.
use Rattle.std.specs.Prelude.{ℕ, zero, suc, ◌+◌, ◌*◌, ◌/◌, ◌%◌, ◌≤◌, ◌<◌, ◌≡◌, cond, List, [], ◌∷◌, ◌++◌, length, get_or, drop, leb}
use Rattle.std.proofs.lemmas.List.Edits.{sets}

-- the number that the w bytes at p say; a byte past the end counts as 0
unfoldable pub number_at : List ℕ → ℕ → ℕ → ℕ
number_at s p zero = 0
number_at s p (suc w) = number_at s p w * 256 + get_or s (p + w) 0

-- the low w bytes of a number
unfoldable pub bytes_of : ℕ → ℕ → List ℕ
bytes_of zero v = []
bytes_of (suc w) v = bytes_of w (v / 256) ++ (v % 256 ∷ [])

-- s with bs stored from p on
unfoldable pub put : List ℕ → ℕ → List ℕ → List ℕ
put s p bs = sets s p bs

-- s with bs stored from p on where it fits wholly; s as it was otherwise
unfoldable pub put_whole : List ℕ → ℕ → List ℕ → List ℕ
put_whole s p bs = cond (leb (p + length bs) (length s)) (put s p bs) s

-- the position past bs where it fits wholly; p otherwise
unfoldable pub past_whole : List ℕ → ℕ → List ℕ → ℕ
past_whole s p bs = cond (leb (p + length bs) (length s)) (p + length bs) p

-- each is a byte, as in every slice of bytes
unfoldable pub Bytes : List ℕ → Type 0
Bytes s = (k : ℕ) → get_or s k 0 < 256

-- bs stands in s from p to e
pub record Stands (s : List ℕ) (p : ℕ) (bs : List ℕ) (e : ℕ) : Type 0 where
  pub bytes : drop p s ≡ bs ++ drop e s
  pub len : e ≡ p + length bs
  pub fits : e ≤ length s
