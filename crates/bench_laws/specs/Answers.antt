-- What the bench prints for a script that it reads to its end, by its own definition. Assumes nothing: these are definitions.
use Rattle.std.specs.Prelude.{ℕ, suc, ◌≡◌, Bool, true, ◌&&◌, List, [], ◌∷◌, ◌++◌, ltb, length}
use Rattle.bench_script.specs.Bench.{Answered, answered_pieces, script}
use Rattle.rescue_walk.specs.Walk.{Piece, copied, passed}

-- how many records are copied
unfoldable pub copies : List Piece → ℕ
copies [] = 0
copies (copied r ∷ ps) = suc (copies ps)
copies (passed r ∷ ps) = copies ps

-- answers, one behind the other, and nothing behind the last
unfoldable pub answers_pieces : List Answered → List (List ℕ)
answers_pieces [] = []
answers_pieces (a ∷ rest) = answered_pieces a ++ answers_pieces rest

-- on a device with these words the bench prints n answers for s, and nothing else
pub record Answers (ws s : List ℕ) (n : ℕ) : Type 0 where
  pub answers : List Answered
  pub many : length answers ≡ n
  pub text : (script ws s).pieces ≡ answers_pieces answers

-- no byte of a text is a letter: digits, `-`, space and newline lie below 58, `bad record` has a `b`, 98
unfoldable pub letterless : List ℕ → Bool
letterless [] = true
letterless (x ∷ s) = ltb x 58 && letterless s
