-- What is proved of the definitions, each stated once. The proof of NumberExact is number-exact, in proofs/, and so for the others.
-- Assumes nothing: these are statements.
use Rattle.std.specs.Prelude.{ℕ, ◌+◌, ◌^◌, ◌≤◌, ◌<◌, ◌≡◌, ◌↔◌, List, ◌++◌, length}
use Rattle.wire_bytes.specs.Bytes.{number_at, bytes_of, Bytes, Stands, put_whole, past_whole}

-- a number is read exactly where its bytes stand, whatever its width
abbrev pub NumberExact : Type 0
NumberExact =
    (s : List ℕ) → Bytes s → (w p v : ℕ) → p + w ≤ length s
    → (number_at s p w ≡ v) ↔ ((v < 256 ^ w) × Stands s p (bytes_of w v) (p + w))

-- two writes that fit, one behind the other, are one
abbrev pub PutsJoin : Type 0
PutsJoin =
    (s a b : List ℕ) (p : ℕ) → p + length (a ++ b) ≤ length s
    → (put_whole (put_whole s p a) (past_whole s p a) b ≡ put_whole s p (a ++ b))
    × (past_whole (put_whole s p a) (past_whole s p a) b ≡ past_whole s p (a ++ b))

-- what is written stands there
abbrev pub PutStands : Type 0
PutStands = (s bs : List ℕ) (p : ℕ) → p + length bs ≤ length s → Stands (put_whole s p bs) p bs (past_whole s p bs)
