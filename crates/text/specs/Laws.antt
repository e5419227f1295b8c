-- What is proved of the definitions. The proof of PiecesJoin is pieces_join, in proofs/, and so for the others.
-- Assumes nothing: these are statements.
use Rattle.std.specs.Prelude.{ℕ, ◌+◌, ◌≤◌, ◌≡◌, List, ◌++◌, length}
use Rattle.wire_bytes.specs.Bytes.{put_whole, past_whole}
use Rattle.text.specs.Pieces.{put_all, past_all, joined}

-- where all fits, pieces are written as the one text that they make
abbrev pub PiecesJoin : Type 0
PiecesJoin = (s : List ℕ) (p : ℕ) (xs : List (List ℕ)) → p + length (joined xs) ≤ length s → (put_all s p xs ≡ put_whole s p (joined xs)) × (past_all s p xs ≡ past_whole s p (joined xs))

-- pieces behind pieces
abbrev pub PiecesMore : Type 0
PiecesMore =
    (s : List ℕ) (p : ℕ) (xs ys : List (List ℕ))
    → (put_all s p (xs ++ ys) ≡ put_all (put_all s p xs) (past_all s p xs) ys) × (past_all s p (xs ++ ys) ≡ past_all (put_all s p xs) (past_all s p xs) ys)

-- a slice is as long as it was, and the position stays within it
abbrev pub PiecesLength : Type 0
PiecesLength = (s : List ℕ) (p : ℕ) (xs : List (List ℕ)) → length (put_all s p xs) ≡ length s

abbrev pub PiecesWithin : Type 0
PiecesWithin = (s : List ℕ) (p : ℕ) (xs : List (List ℕ)) → p ≤ length s → past_all s p xs ≤ length s
