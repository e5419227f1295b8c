-- A line by its tick. Assumes nothing.
use Prim.Native.Nat.{ℕ}
use mathlib.Core.Path.{◌≡◌, refl, sym, ◌∙◌}
use mathlib.Core.Bool.{Bool, true, false, cond}
use mathlib.Core.List.{List}
use Rattle.std.specs.Prelude.{Option, Some, None}
use Rattle.wire_bytes.specs.Bytes.{put_whole, past_whole}
use Rattle.text.specs.Pieces.{put_all, past_all}
use Rattle.ticks.specs.Words.{words_left}
use Rattle.console_words.specs.Answers.{bad_line}
use Rattle.console_other_lines.specs.Lines.{is_new, tick_number, value_of, is_reading, tick_in, begun, reading_pieces, answer_of, front_left}

module _ (s ends : List ℕ) (count : ℕ) where
  is_read : (t : ℕ) → tick_in s ends count ≡ Some t → (is_reading s ends count ≡ true) × (value_of (tick_number s ends) ≡ t)
  unfolding tick_in
  is_read t e = go (is_reading s ends count) e
    where
      go : (b : Bool) → cond b (Some (value_of (tick_number s ends))) None ≡ Some t → (b ≡ true) × (value_of (tick_number s ends) ≡ t)
      go true e = (refl, cc)
      go false e = absurd (cc)

  not-read : tick_in s ends count ≡ None → is_reading s ends count ≡ false
  unfolding tick_in
  not-read e = go (is_reading s ends count) e
    where
      go : (b : Bool) → cond b (Some (value_of (tick_number s ends))) None ≡ None → b ≡ false
      go true e = absurd (cc)
      go false e = refl

module _ (front s ends : List ℕ) (count : ℕ) (out : List ℕ) (at : ℕ) where
  -- what a line answers and leaves
  abbrev Answers : ℕ → List ℕ → List ℕ → Type 0
  Answers r t left =
      (r ≡ past_all out at (answer_of front s ends count)) × ((t ≡ put_all out at (answer_of front s ends count)) × (left ≡ front_left front s ends count))

  pub answered : (q : Option ℕ) (n : ℕ) (fresh : Bool) (f : List ℕ) {r : ℕ} {t left : List ℕ} → q ≡ tick_in s ends count → q ≡ Some n
      → fresh ≡ is_new s ends → f ≡ begun front fresh
      → (r ≡ past_all out at (reading_pieces f n)) × ((t ≡ put_all out at (reading_pieces f n)) × (left ≡ words_left f n)) → Answers r t left
  unfolding answer_of front_left
  answered q n fresh f e y i g h = let both = is_read s ends count n (sym e ∙ y) in rw (both.0, both.1, ← i, ← g) h

  pub bad : (q : Option ℕ) {r : ℕ} {t : List ℕ} → q ≡ tick_in s ends count → q ≡ None
      → (r ≡ past_whole out at bad_line) × (t ≡ put_whole out at bad_line) → Answers r t front
  unfolding answer_of front_left put_all past_all
  bad q e y h = rw (not-read s ends count (sym e ∙ y)) (h.0, (h.1, refl))
