-- The front as words. Assumes nothing: these are definitions.
use Rattle.std.specs.Prelude.{ℕ, ◌%◌, ◌^◌, cond, not, List, [], ◌∷◌, ◌==◌, slice_index}
use Rattle.std.proofs.lemmas.List.Edits.{sets}
use Rattle.ticks.specs.Ticks.{reading_of}
use Rattle.ticks.specs.declared.front.Front.{Front}
use Rattle.ticks.specs.declared.front.Reading.{Reading}
use Rattle.ticks.specs.declared.words.Answer.{Answer}

-- the front that words say: begun is any but 0; of a reading and of a remainder the low 32 bits count
unfoldable pub front_in : List ℕ → Front
front_in ws = record {
  begun = not (slice_index ws 0 == 0);
  last = slice_index ws 1 % 2 ^ 32;
  seconds = slice_index ws 2;
  remainder = slice_index ws 3 % 2 ^ 32;
}

-- the words of a front that has begun
unfoldable pub front_words : Front → List ℕ
front_words f = 1 ∷ f.last ∷ f.seconds ∷ f.remainder ∷ []

-- the words afterwards: those of an accepted reading's front, and all that they were at a refusal
unfoldable pub kept : List ℕ → Reading → List ℕ
kept ws r = cond (r.number == 0) (sets ws 0 (front_words r.front)) ws

-- what a reading answers
abbrev pub answer : Reading → Answer
answer r = record { number = r.number; seconds = r.seconds }

-- a reading over words; of the tick the low 32 bits count
abbrev pub reading_in : List ℕ → ℕ → Reading
reading_in ws tick = reading_of (front_in ws) (tick % 2 ^ 32)

abbrev pub words_left : List ℕ → ℕ → List ℕ
words_left ws tick = kept ws (reading_in ws tick)
