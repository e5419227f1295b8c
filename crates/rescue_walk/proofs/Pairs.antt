-- The lines from the i-th run on. Assumes nothing.
use Prim.Native.Nat.{ℕ, zero, suc, ◌+◌, ◌*◌, ◌/◌, ◌≤◌, ◌<◌}
use mathlib.Core.Path.{◌≡◌, refl, ap, ◌∙◌}
use mathlib.Core.List.{List, [], ◌∷◌, ◌++◌}
use native.Mathlib.Numerals.{add-one}
use native.Mathlib.Omega.{arith}
use lib.ListN.{length, get_or, take, drop, length-drop}
use lib.Seq.{drop-cons, drop-drop, take_all, get_or-take, get_or-drop}
use Rattle.std.specs.Simd.{first_chunks}
use borrow.Author.Tests.{eq-eqb, ne_eqb}
use Rattle.rescue_walk.specs.Lines.{line_pieces, lines_in, refusal_pieces, text_pieces}

lines_next : (l : List ℕ) (k m : ℕ) → m ≡ k + 2 → k + 1 < length l → lines_in (drop k l) ≡ line_pieces (get_or l k 0) (get_or l (k + 1) 0) ++ lines_in (drop m l)
unfolding lines_in
lines_next l k m e h =
    let f : m ≡ suc (suc k) = omega arith in
    let h₀ : k < length l = omega arith in
    let h₁ : suc k < length l = omega arith in
    rw (f, add-one k, drop-cons l k 0 h₀, drop-cons l (suc k) 0 h₁) refl

lines_short : (l : List ℕ) → length l < 2 → lines_in l ≡ []
unfolding lines_in
lines_short [] h = refl
lines_short (x ∷ []) h = refl
lines_short (x ∷ y ∷ l) h = absurd (omega arith)

pub lines_over : (l : List ℕ) (k : ℕ) → length l < k + 2 → lines_in (drop k l) ≡ []
lines_over l k h = let d = length-drop k l in lines_short (drop k l) (omega arith)

-- a report's runs, two numbers each
two-at : (k i : ℕ) (l : List ℕ) → i < k → get_or (first_chunks 2 k l) i [] ≡ take 2 (drop (2 * i) l)
two-at zero i l h = absurd (omega arith)
two-at (suc k) zero l h = refl
two-at (suc k) (suc i) l h =
    let e : 2 + 2 * i ≡ 2 * suc i = omega arith in
    two-at k i (drop 2 l) (omega arith) ∙ ap (take 2) (drop-drop (2 * i) 2 l ∙ ap (λ (m : ℕ). drop m l) e)

module _ (l : List ℕ) (cs : List (List ℕ)) (is : cs ≡ first_chunks 2 (length l / 2) l) (i : ℕ) where
  -- one of the two numbers of the i-th
  one_of : (j : ℕ) → i < length l / 2 → j < 2 → get_or (get_or cs i []) j 0 ≡ get_or l (2 * i + j) 0
  one_of j h k =
      rw (is, two-at (length l / 2) i l h) (get_or-take 2 (drop (2 * i) l) j 0 k ∙ get_or-drop (2 * i) l j 0)

  pub two_next : i < length l / 2
      → lines_in (drop (2 * i) l) ≡ line_pieces (get_or (get_or cs i []) 0 0) (get_or (get_or cs i []) 1 0) ++ lines_in (drop (2 * (i + 1)) l)
  two_next h =
      let z : 2 * i + 0 ≡ 2 * i = omega arith in
      rw (one_of 0 h (omega arith), one_of 1 h (omega arith), z) (lines_next l (2 * i) (2 * (i + 1)) (omega arith) (omega arith))

-- what is said
module _ (n runs : ℕ) (l : List ℕ) where
  pub says-refused : (n ≡ 0 → ⊥) → refusal_pieces n ≡ text_pieces n runs l
  unfolding text_pieces
  says-refused e = rw (ne_eqb n 0 e)

  pub says-lines : n ≡ 0 → lines_in (take (2 * runs) l) ≡ text_pieces n runs l
  unfolding text_pieces
  says-lines e = rw (eq-eqb n 0 e)

  pub says_all : n ≡ 0 → length l ≤ 2 * runs → lines_in l ≡ text_pieces n runs l
  unfolding text_pieces
  says_all e h = rw (eq-eqb n 0 e, take_all (2 * runs) l h)
