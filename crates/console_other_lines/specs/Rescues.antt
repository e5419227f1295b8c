-- Whether a line is about a damaged script. Assumes nothing: these are definitions.
use Rattle.std.specs.Prelude.{ℕ, Bool, List, [], ◌∷◌}
use Rattle.console_words.specs.Spans.{is_word}

-- `rescue` is its first word, by the ends of its words
unfoldable pub is_rescue : List ℕ → List ℕ → Bool
is_rescue s ends = is_word s ends 0 (114 ∷ 101 ∷ 115 ∷ 99 ∷ 117 ∷ 101 ∷ [])
