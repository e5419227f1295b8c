-- The words of a line one after the other, and which of them a word is. Assumes nothing.
use Prim.Native.Nat.{ℕ, zero, suc, ◌+◌, ◌-◌, ◌≤◌, ◌<◌}
use mathlib.Core.Path.{◌≡◌, refl, sym, ap, ◌∙◌}
use mathlib.Core.Logic.{⊎_elim}
use mathlib.Core.Bool.{Bool, true, false, cond}
use Rattle.std.specs.Prelude.{Some, None}
use mathlib.Core.List.{List, [], ◌∷◌}
use native.Mathlib.Numerals.{add-one}
use native.Mathlib.Omega.{arith}
use lib.Dec.{eqb}
use lib.ListN.{length, take, drop, length-drop}
use lib.Seq.{drop-drop}
use Rattle.wire_bytes.proofs.Order.{below}
use Rattle.console_words.specs.Spans.{next_of, same_bytes, longer, words_of, place_from}
use Rattle.console_words.proofs.Ends.{next_past, take_none}

-- a text's first word, where it is the last
words_last : (p : ℕ) (s : List ℕ) (m : ℕ) → p + m ≡ next_of 32 p s → length s ≤ m → words_of s ≡ take m s ∷ []
unfolding next_of words_of longer
words_last p [] m e h = ap (λ (w : List ℕ). w ∷ []) (sym (take_none m))
words_last p (x ∷ s) m e h = go (eqb x 32) m e h (words_last (suc p) s)
  where
    go : (q : Bool) (m : ℕ) → p + m ≡ cond q p (next_of 32 (suc p) s) → suc (length s) ≤ m
        → ((j : ℕ) → suc p + j ≡ next_of 32 (suc p) s → length s ≤ j → words_of s ≡ take j s ∷ [])
        → cond q ([] ∷ words_of s) (longer x (words_of s)) ≡ take m (x ∷ s) ∷ []
    go true m e h f = absurd (omega arith)
    go false zero e h f = absurd (omega arith)
    go false (suc j) e h f = ap (longer x) (f j (omega arith) (omega arith))

-- and where there are others behind it
words_more : (p : ℕ) (s : List ℕ) (m : ℕ) → p + m ≡ next_of 32 p s → m < length s → words_of s ≡ take m s ∷ words_of (drop (suc m) s)
unfolding next_of words_of longer
words_more p [] m e h = absurd (omega arith)
words_more p (x ∷ s) m e h = go (eqb x 32) m e h (words_more (suc p) s)
  where
    go : (q : Bool) (m : ℕ) → p + m ≡ cond q p (next_of 32 (suc p) s) → m < suc (length s)
        → ((j : ℕ) → suc p + j ≡ next_of 32 (suc p) s → j < length s → words_of s ≡ take j s ∷ words_of (drop (suc j) s))
        → cond q ([] ∷ words_of s) (longer x (words_of s)) ≡ take m (x ∷ s) ∷ words_of (drop m s)
    go true m e h f = let z : m ≡ 0 = omega arith in rw z refl
    go false zero e h f = absurd (omega (arith, next_past 32 (suc p) s))
    go false (suc j) e h f = ap (longer x) (f j (omega arith) (omega arith))

-- none of the first k words is w, and the others stand from `at` on
pub record Sought (w line : List ℕ) (k at : ℕ) : Type 0 where
  pub within : at ≤ length line
  pub few : k ≤ at
  pub left : place_from k w (words_of (drop at line)) ≡ place_from 0 w (words_of line)

-- the word from `at` to e, and whether it is w
module _ (w line : List ℕ) (k at : ℕ) (inv : Sought w line k at) (e : ℕ) (here : e ≡ next_of 32 at (drop at line)) (from : at ≤ e)
    (b : Bool) (is : b ≡ same_bytes w (take (e - at) (drop at line))) where
  abbrev word : List ℕ
  word = take (e - at) (drop at line)

  the_last : length line ≤ e → words_of (drop at line) ≡ word ∷ []
  the_last h = words_last at (drop at line) (e - at) (omega arith) (omega (arith, length-drop at line))

  one_more : e < length line → words_of (drop at line) ≡ word ∷ words_of (drop (e + 1) line)
  one_more h =
      let j : at + suc (e - at) ≡ e + 1 = omega arith in
      words_more at (drop at line) (e - at) (omega arith) (omega (arith, length-drop at line))
      ∙ ap (λ (l : List ℕ). word ∷ words_of l) (drop-drop (suc (e - at)) at line ∙ ap (λ (n : ℕ). drop n line) j)

  -- the place by what stands behind the word
  by : (others : List (List ℕ)) → words_of (drop at line) ≡ word ∷ others → cond b (Some k) (place_from (suc k) w others) ≡ place_from 0 w (words_of line)
  unfolding place_from
  by others f = rw is (rw f at inv.left)

  pub is_here : b ≡ true → Some k ≡ place_from 0 w (words_of line)
  is_here y = ⊎_elim (λ h. rw y at (by _ (one_more h))) (λ h. rw y at (by _ (the_last h))) (below e (length line))

  pub is_none : b ≡ false → length line ≤ e → None ≡ place_from 0 w (words_of line)
  unfolding place_from
  is_none n h = rw n at (by [] (the_last h))

  pub is_behind : b ≡ false → e < length line → Sought w line (k + 1) (e + 1)
  is_behind n h =
      record {
        within = omega arith;
        few = omega (arith, inv.few);
        left = rw (add-one k) (rw n at (by _ (one_more h)));
      }
