-- Rows in turn: the first that has the name is the one that is found. Assumes nothing.
use Prim.Native.Nat.{ℕ, zero, suc, ◌+◌, ◌≤◌, ◌<◌}
use mathlib.Core.Path.{◌≡◌, refl, sym, ap, ◌∙◌}
use mathlib.Core.Bool.{Bool, true, false, cond}
use mathlib.Core.List.{List, [], ◌∷◌, map}
use native.Mathlib.Numerals.{add-one}
use native.Mathlib.Omega.{arith}
use lib.ListN.{length, get_or, drop, drop_of_length-le}
use lib.Seq.{drop-cons, get_or-drop, drop-drop}
use Rattle.std.proofs.Common.{Bor}
use Rattle.std.specs.Prelude.{Option, None, Some}
use Rattle.console_words.specs.Spans.{same_bytes, place_from}
use Rattle.console_line.specs.Commands.{unknown, said, table, lines_of, found}
use Rattle.console_line.specs.declared.commands.Line.{Line}

drop-said : (rows : List (Bor (List ℕ) × Line)) (k : ℕ) → drop k (said rows) ≡ said (drop k rows)
drop-said [] zero = refl
drop-said [] (suc k) = refl
drop-said (r ∷ rows) zero = refl
drop-said (r ∷ rows) (suc k) = drop-said rows k

module _ (rows : List (Bor (List ℕ) × Line)) (w : List ℕ) (k : ℕ) (d : Bor (List ℕ) × Line) (q : Line) (inv : found (drop k (said rows)) w ≡ q) where
  pub row_here : k < length rows → {b : Bool} → b ≡ same_bytes w (get_or rows k d).0.now → b ≡ true → (get_or rows k d).1 ≡ q
  unfolding found
  row_here h f e = rw (← f, e) at (rw (drop-said rows k, drop-cons rows k d h) at inv)

  pub row_other : k < length rows → {b : Bool} → b ≡ same_bytes w (get_or rows k d).0.now → b ≡ false → found (drop (k + 1) (said rows)) w ≡ q
  unfolding found
  row_other h f e = rw (add-one k, drop-said rows (suc k)) (rw (← f, e) at (rw (drop-said rows k, drop-cons rows k d h) at inv))

pub row_none : (rows : List (Bor (List ℕ) × Line)) (w : List ℕ) (k : ℕ) (q : Line) → found (drop k (said rows)) w ≡ q → length rows ≤ k → unknown ≡ q
unfolding found
row_none rows w k q inv h = rw (drop-said rows k, drop_of_length-le rows h) at inv

-- THE PLACE OF A NAME: the row at it is the row that is found by the name
abbrev names_of : List (List ℕ × Line) → List (List ℕ)
names_of rows = map (λ r. r.0) rows

abbrev line_at : List Line → Option ℕ → Line
line_at ls None = unknown
line_at ls (Some k) = get_or ls k unknown

-- the rows t stand from the k-th on
found_from : (ls : List Line) (w : List ℕ) (t : List (List ℕ × Line)) (k : ℕ) → drop k ls ≡ lines_of t → line_at ls (place_from k w (names_of t)) ≡ found t w
unfolding place_from found
found_from ls w [] k e = refl
found_from ls w (r ∷ t) k e = go (same_bytes w r.0) (found_from ls w t (suc k) behind)
  where
    here : get_or ls k unknown ≡ r.1
    here =
        let z : k + 0 ≡ k = omega arith in
        ap (λ (n : ℕ). get_or ls n unknown) (sym z) ∙ sym (get_or-drop k ls 0 unknown) ∙ ap (λ (l : List Line). get_or l 0 unknown) e

    behind : drop (suc k) ls ≡ lines_of t
    behind =
        let z : k + 1 ≡ suc k = omega arith in
        ap (λ (n : ℕ). drop n ls) (sym z) ∙ sym (drop-drop 1 k ls) ∙ ap (λ (l : List Line). drop 1 l) e

    go : (b : Bool) → line_at ls (place_from (suc k) w (names_of t)) ≡ found t w → line_at ls (cond b (Some k) (place_from (suc k) w (names_of t))) ≡ cond b r.1 (found t w)
    go true h = here
    go false h = h

pub found_at : (w : List ℕ) → line_at (lines_of table) (place_from 0 w (names_of table)) ≡ found table w
found_at w = found_from (lines_of table) w table 0 refl
