-- Where the words of a line end, one after the other. Assumes nothing.
use Prim.Native.Nat.{ℕ, zero, suc, ◌+◌, ◌-◌, ◌≤◌, ◌<◌}
use mathlib.Core.Path.{◌≡◌, refl, ap, ◌∙◌}
use mathlib.Core.Bool.{Bool, true, false, not, cond}
use Rattle.std.specs.Prelude.{Option, Some, None, MatchOption}
use Rattle.std.specs.List.{position, position_or_len}
use Rattle.std.proofs.lemmas.List.Sums.{prefix_len-le-length}
use mathlib.Core.List.{List, [], ◌∷◌}
use native.Mathlib.Numerals.{add-one}
use native.Mathlib.Omega.{arith}
use lib.Dec.{eqb, ltb}
use lib.ListN.{length, take, drop, set, length-drop, length-set}
use lib.Seq.{sets, drop-drop}
use borrow.Author.Tests.{le-leb, lt-leb, ltb-false}
use Rattle.console_words.specs.Spans.{next_of, ends_from, word_ends, words_in, ends_after}

-- the next byte b, by the place of the first in what is left
next_at : (b p : ℕ) (s : List ℕ) → next_of b p s ≡ p + position_or_len (λ x. eqb x b) s
unfolding next_of
next_at b p [] = omega arith
next_at b p (x ∷ s) = go (eqb x b) (next_at b (suc p) s)
  where
    go : (q : Bool) → next_of b (suc p) s ≡ suc p + position_or_len (λ x. eqb x b) s
        → cond q p (next_of b (suc p) s) ≡ p + cond (not q) (1 + position_or_len (λ x. eqb x b) s) 0
    go true e = omega arith
    go false e = omega (arith, e)

pub next_from : (b p : ℕ) (s : List ℕ) (q : Option ℕ) (r n : ℕ) → q ≡ position (λ x. eqb x b) s → MatchOption q (r ≡ n) (λ k. r ≡ p + k) → n ≡ p + length s
    → r ≡ next_of b p s
next_from b p s q r n e m l = go (ltb (position_or_len (λ x. eqb x b) s) (length s)) refl (rw e at m)
  where
    go : (t : Bool) → ltb (position_or_len (λ x. eqb x b) s) (length s) ≡ t
        → MatchOption (cond t (Some (position_or_len (λ x. eqb x b) s)) None) (r ≡ n) (λ k. r ≡ p + k) → r ≡ next_of b p s
    go true f m = omega (arith, m, next_at b p s)
    go false f m = omega (arith, m, next_at b p s, prefix_len-le-length (λ x. not (eqb x b)) s, ltb-false _ _ f)

-- a text's first end, and the ends behind it
pub next_past : (b p : ℕ) (s : List ℕ) → p ≤ next_of b p s
unfolding next_of
next_past b p [] = omega arith
next_past b p (x ∷ s) = go (eqb x b) (next_past b (suc p) s)
  where
    go : (q : Bool) → suc p ≤ next_of b (suc p) s → p ≤ cond q p (next_of b (suc p) s)
    go true h = omega arith
    go false h = omega arith

pub ends_last : (b p : ℕ) (s : List ℕ) → next_of b p s ≡ p + length s → ends_from b p s ≡ next_of b p s ∷ []
unfolding next_of ends_from
ends_last b p [] h = refl
ends_last b p (x ∷ s) h = go (eqb x b) (ends_last b (suc p) s) h
  where
    go : (q : Bool) → (next_of b (suc p) s ≡ suc p + length s → ends_from b (suc p) s ≡ next_of b (suc p) s ∷ [])
        → cond q p (next_of b (suc p) s) ≡ p + suc (length s)
        → cond q (p ∷ ends_from b (suc p) s) (ends_from b (suc p) s) ≡ cond q p (next_of b (suc p) s) ∷ []
    go true f e = absurd (omega arith)
    go false f e = f (omega arith)

pub ends_more : (b p : ℕ) (s : List ℕ) (k : ℕ) → next_of b p s < p + length s → p + k ≡ next_of b p s
    → ends_from b p s ≡ next_of b p s ∷ ends_from b (suc (next_of b p s)) (drop (suc k) s)
unfolding next_of ends_from
ends_more b p [] k h e = absurd (omega arith)
ends_more b p (x ∷ s) k h e = go (eqb x b) k h e (ends_more b (suc p) s)
  where
    go : (q : Bool) (k : ℕ) → cond q p (next_of b (suc p) s) < p + suc (length s) → p + k ≡ cond q p (next_of b (suc p) s)
        → ((j : ℕ) → next_of b (suc p) s < suc p + length s → suc p + j ≡ next_of b (suc p) s
        → ends_from b (suc p) s ≡ next_of b (suc p) s ∷ ends_from b (suc (next_of b (suc p) s)) (drop (suc j) s))
        → cond q (p ∷ ends_from b (suc p) s) (ends_from b (suc p) s)
        ≡ cond q p (next_of b (suc p) s) ∷ ends_from b (suc (cond q p (next_of b (suc p) s))) (drop k s)
    go true k h e f = let z : k ≡ 0 = omega arith in rw z refl
    go false zero h e f = absurd (omega (arith, next_past b (suc p) s))
    go false (suc j) h e f = f j (omega arith) (omega arith)

pub ends_some : (b p : ℕ) (s : List ℕ) → 0 < length (ends_from b p s)
unfolding ends_from
ends_some b p [] = omega arith
ends_some b p (x ∷ s) = go (eqb x b) (ends_some b (suc p) s)
  where
    go : (q : Bool) → 0 < length (ends_from b (suc p) s) → 0 < length (cond q (p ∷ ends_from b (suc p) s) (ends_from b (suc p) s))
    go true h = omega arith
    go false h = h

pub take_none : (m : ℕ) → take {A = ℕ} m [] ≡ []
take_none zero = refl
take_none (suc m) = refl

-- with n ends stored, the text from `at` on still gives what the whole line does
pub record Left (line ends₀ ends : List ℕ) (n at : ℕ) : Type 0 where
  pub within : at ≤ length line
  pub len : length ends ≡ length ends₀
  pub count : n + length (ends_from 32 at (drop at line)) ≡ length (word_ends line)
  pub list : sets ends n (take (length ends₀ - n) (ends_from 32 at (drop at line))) ≡ ends_after line ends₀

pub none-stored : (line ends : List ℕ) → Left line ends ends 0 0
unfolding ends_after
none-stored line ends =
    let e : length ends - 0 ≡ length ends = omega arith in
    record { within = omega arith; len = refl; count = omega arith; list = rw e refl }

module _ (line ends₀ ends : List ℕ) (n at e : ℕ) (inv : Left line ends₀ ends n at) (here : e ≡ next_of 32 at (drop at line)) (h : n < length ends₀) where
  room : length ends₀ - n ≡ suc (length ends₀ - suc n)
  room = omega arith

  pub last_stored : e ≡ length line → (Some (n + 1) ≡ words_in line (length ends₀)) × (set ends n e ≡ ends_after line ends₀)
  unfolding words_in
  last_stored z =
      let f : ends_from 32 at (drop at line) ≡ e ∷ [] = rw here (ends_last 32 at (drop at line) (omega (arith, length-drop at line, inv.within))) in
      let k : n + 1 ≡ length (word_ends line) = rw f at inv.count in
      let g : take (length ends₀ - n) (ends_from 32 at (drop at line)) ≡ e ∷ [] = rw (f, room) (ap (λ (l : List ℕ). e ∷ l) (take_none (length ends₀ - suc n))) in
      (rw (le-leb (length (word_ends line)) (length ends₀) (omega arith)) (ap Some k), rw g at inv.list)

  pub one_stored : at ≤ e → e < length line → Left line ends₀ (set ends n e) (n + 1) (e + 1)
  one_stored g l =
      let f₀ = ends_more 32 at (drop at line) (e - at) (omega (arith, length-drop at line)) (omega arith) in
      let j : at + suc (e - at) ≡ suc e = omega arith in
      let d : drop (suc (e - at)) (drop at line) ≡ drop (suc e) line = drop-drop (suc (e - at)) at line ∙ ap (λ (k : ℕ). drop k line) j in
      let f : ends_from 32 at (drop at line) ≡ e ∷ ends_from 32 (suc e) (drop (suc e) line) = rw here (rw (d, here) at f₀) in
      record {
        within = omega arith;
        len = length-set ends n e ∙ inv.len;
        count = rw (add-one e) (omega (arith, rw f at inv.count));
        list = rw (add-one n, add-one e) (rw (f, room) at inv.list);
      }

pub no_room : (line ends₀ ends : List ℕ) (n at : ℕ) → Left line ends₀ ends n at → length ends₀ ≤ n
    → (None ≡ words_in line (length ends₀)) × (ends ≡ ends_after line ends₀)
unfolding words_in
no_room line ends₀ ends n at inv h =
    let z : length ends₀ - n ≡ 0 = omega arith in
    (rw (lt-leb (length (word_ends line)) (length ends₀) (omega (arith, inv.count, ends_some 32 at (drop at line)))) refl, rw z at inv.list)
