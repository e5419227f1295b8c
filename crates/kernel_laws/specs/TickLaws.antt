-- What is proved of readings, one after the other (document 02, L10). The proof of TrueSeconds is true-seconds, in proofs/, and so for
-- the others. Assumes nothing: these are definitions and statements.
use Rattle.std.specs.Prelude.{ℕ, ◌+◌, ◌-◌, ◌/◌, ◌%◌, ◌^◌, ◌≤◌, ◌<◌, ◌≡◌, true, false, List, [], ◌∷◌, map, pos, negsuc, length, get_or}
use Rattle.ticks.specs.declared.front.Front.{Front}
use Rattle.ticks.specs.declared.words.Answer.{Answer}
use Rattle.device_store.specs.Sizes.{end}
use Rattle.ticks.specs.Ticks.{END, reading_of}
use Rattle.ticks.specs.Words.{front_in, answer, reading_in, words_left}

-- ANSWERS
abbrev pub refusal : Answer
refusal = record { number = 5; seconds = negsuc 0 }

abbrev pub at : ℕ → Answer
at s = record { number = 0; seconds = pos s }

-- reading after reading, each with the front that the one before left
unfoldable pub answers : Front → List ℕ → List Answer
answers f [] = []
answers f (k ∷ ks) = answer (reading_of f k) ∷ answers (reading_of f k).front ks

-- the front after all of them
unfoldable pub after : Front → List ℕ → Front
after f [] = f
after f (k ∷ ks) = after (reading_of f k).front ks

-- TRUE TIMES
-- what the counter shows at the true times, in milliseconds, whatever it showed at 0
unfoldable pub shown : ℕ → List ℕ → List ℕ
shown offset [] = []
shown offset (t ∷ ts) = (offset + t) % 2 ^ 32 ∷ shown offset ts

-- "every true gap between readings is below 2^31 ms"
pub data Gaps : ℕ → List ℕ → Type 0 where
  last : {t : ℕ} → Gaps t []
  gap : {t u : ℕ} {us : List ℕ} → t ≤ u → u - t < 2 ^ 31 → Gaps u us → Gaps t (u ∷ us)

-- "the true milliseconds since the first reading divided by 1,000, rounded down"
abbrev pub since : ℕ → ℕ → ℕ
since t₀ t = (t - t₀) / 1000

unfoldable pub truly : ℕ → List ℕ → List Answer
truly t₀ [] = []
truly t₀ (t ∷ ts) = at (since t₀ t) ∷ truly t₀ ts

-- "and the end is not passed"
pub data Within (t₀ : ℕ) : List ℕ → Type 0 where
  done : Within t₀ []
  more : {t : ℕ} {ts : List ℕ} → since t₀ t ≤ END → Within t₀ ts → Within t₀ (t ∷ ts)

-- "the seconds given equal the true milliseconds ..., over any sequence of readings and rollovers"
abbrev pub TrueSeconds : Type 0
TrueSeconds =
    (f : Front) → f.begun ≡ false → (offset t₀ : ℕ) (ts : List ℕ) → Gaps t₀ ts → Within t₀ ts
    → answers f (shown offset (t₀ ∷ ts)) ≡ truly t₀ (t₀ ∷ ts)

-- the same of one reading, whatever comes behind it: as long as the end is not passed
abbrev pub AsLongAs : Type 0
AsLongAs =
    (f : Front) → f.begun ≡ false → (offset t₀ : ℕ) (ts : List ℕ) → Gaps t₀ ts
    → (i : ℕ) → i ≤ length ts → since t₀ (get_or (t₀ ∷ ts) i 0) ≤ END
    → get_or (answers f (shown offset (t₀ ∷ ts))) i refusal ≡ at (since t₀ (get_or (t₀ ∷ ts) i 0))

-- ANY READINGS
-- each answer is a refusal or gives no less than those before it, and not more than the end
pub data Rising : ℕ → List Answer → Type 0 where
  empty : {s : ℕ} → Rising s []
  refuses : {s : ℕ} {zs : List Answer} → Rising s zs → Rising s (refusal ∷ zs)
  gives : {s u : ℕ} {zs : List Answer} → s ≤ u → u ≤ END → Rising u zs → Rising s (at u ∷ zs)

-- from any front, over any readings
abbrev pub NeverFalls : Type 0
NeverFalls = (f : Front) (ks : List ℕ) → Rising 0 (answers f ks)

-- a front that has begun holds the least that its readings give
abbrev pub NeverFallsFrom : Type 0
NeverFallsFrom = (f : Front) → f.begun ≡ true → (ks : List ℕ) → (Rising f.seconds (answers f ks)) × (f.seconds ≤ (after f ks).seconds)

-- "a refused reading changes nothing"
abbrev pub RefusedLeaves : Type 0
RefusedLeaves = (f : Front) (k : ℕ) → ((reading_of f k).number ≡ 0 → ⊥) → ((reading_of f k).front ≡ f) × (answer (reading_of f k) ≡ refusal)

-- the last second is that of the kernel's clock
abbrev pub KernelsEnd : Type 0
KernelsEnd = END + 1 ≡ end

-- IN C
-- reading after reading over lent words
unfoldable pub word_answers : List ℕ → List ℕ → List Answer
word_answers ws [] = []
word_answers ws (k ∷ ks) = answer (reading_in ws k) ∷ word_answers (words_left ws k) ks

-- a front of four words, kept between calls, answers as one by value: every law above is about both
abbrev pub InWords : Type 0
InWords = (ws : List ℕ) → length ws ≡ 4 → (ks : List ℕ) → word_answers ws ks ≡ answers (front_in ws) (map (λ k. k % 2 ^ 32) ks)
