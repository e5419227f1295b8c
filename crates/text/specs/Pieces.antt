-- Pieces of text written one behind the other, each where it fits wholly. Assumes nothing: these are definitions.
use Rattle.std.specs.Prelude.{ℕ, List, [], ◌∷◌, ◌++◌}
use Rattle.wire_bytes.specs.Bytes.{put_whole, past_whole}

-- s with the pieces stored from p on
unfoldable pub put_all : List ℕ → ℕ → List (List ℕ) → List ℕ
put_all s p [] = s
put_all s p (x ∷ xs) = put_all (put_whole s p x) (past_whole s p x) xs

-- the position past them
unfoldable pub past_all : List ℕ → ℕ → List (List ℕ) → ℕ
past_all s p [] = p
past_all s p (x ∷ xs) = past_all (put_whole s p x) (past_whole s p x) xs

-- the text that they make
unfoldable pub joined : List (List ℕ) → List ℕ
joined [] = []
joined (x ∷ xs) = x ++ joined xs
