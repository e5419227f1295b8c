-- The answer to a line about a tick counter. Assumes nothing: these are definitions.
use Rattle.std.specs.Prelude.{ℕ, ◌^◌, Bool, false, cond, ◌&&◌, ◌||◌, List, [], ◌∷◌, ltb, eqb, Option, Some, None}
use Rattle.text.specs.Text.{decimal, signed}
use Rattle.ticks.specs.Words.{reading_in, words_left}
use Rattle.console_words.specs.Answers.{bad_line}
use Rattle.console_words.specs.Numbers.{number_in}
use Rattle.console_words.specs.Spans.{span_of, is_word}
use Rattle.console_words.specs.declared.numbers.Number.{Number}

-- `tick`
unfoldable pub is_tick : List ℕ → List ℕ → Bool
is_tick s ends = is_word s ends 0 (116 ∷ 105 ∷ 99 ∷ 107 ∷ [])

-- `new`
unfoldable pub is_new : List ℕ → List ℕ → Bool
is_new s ends = is_word s ends 1 (110 ∷ 101 ∷ 119 ∷ [])

-- `same`
unfoldable pub is_same : List ℕ → List ℕ → Bool
is_same s ends = is_word s ends 1 (115 ∷ 97 ∷ 109 ∷ 101 ∷ [])

-- the number of the last word
unfoldable pub tick_number : List ℕ → List ℕ → Option Number
tick_number s ends = number_in s (span_of ends 2).from (span_of ends 2).to

-- "a tick that 32 bits cannot hold is a bad line"
abbrev pub fits : Option Number → Bool
fits None = false
fits (Some n) = ltb n.value (2 ^ 32)

-- a number's value, 0 where there is none
abbrev pub value_of : Option Number → ℕ
value_of None = 0
value_of (Some n) = n.value

-- three words, one of the two, and a tick
unfoldable pub is_reading : List ℕ → List ℕ → ℕ → Bool
is_reading s ends count = cond (eqb count 3) ((is_new s ends || is_same s ends) && fits (tick_number s ends)) false

-- the tick of a line, where it is a reading
unfoldable pub tick_in : List ℕ → List ℕ → ℕ → Option ℕ
tick_in s ends count = cond (is_reading s ends count) (Some (value_of (tick_number s ends))) None

-- a fresh front
abbrev pub zeros : List ℕ
zeros = 0 ∷ 0 ∷ 0 ∷ 0 ∷ []

-- "`new` makes a fresh one even where the call is then refused"
unfoldable pub begun : List ℕ → Bool → List ℕ
begun front fresh = cond fresh zeros front

-- "number, seconds"
unfoldable pub reading_pieces : List ℕ → ℕ → List (List ℕ)
reading_pieces front tick = decimal (reading_in front tick).number ∷ (32 ∷ []) ∷ signed (reading_in front tick).seconds ∷ (10 ∷ []) ∷ []

unfoldable pub answer_of : List ℕ → List ℕ → List ℕ → ℕ → List (List ℕ)
answer_of front s ends count =
    cond (is_reading s ends count) (reading_pieces (begun front (is_new s ends)) (value_of (tick_number s ends))) (bad_line ∷ [])

-- a bad line leaves the front
unfoldable pub front_left : List ℕ → List ℕ → List ℕ → ℕ → List ℕ
front_left front s ends count =
    cond (is_reading s ends count) (words_left (begun front (is_new s ends)) (value_of (tick_number s ends))) front
