-- Whether a line is about a scrap. Assumes nothing: this is a definition.
use Rattle.std.specs.Prelude.{ℕ, Bool, List, [], ◌∷◌}
use Rattle.console_words.specs.Spans.{is_word}

-- `scrap`
unfoldable pub is_scrap : List ℕ → List ℕ → Bool
is_scrap s ends = is_word s ends 0 (115 ∷ 99 ∷ 114 ∷ 97 ∷ 112 ∷ [])
