-- The laws of loops over an index i: what is left to do, from what is done so far, is the whole.
use Prim.Native.Nat.{ℕ, ◌+◌, ◌<◌, ◌≤◌}
use mathlib.Core.Bool.{Bool, true, false}
use mathlib.Core.Path.{◌≡◌, sym, ap, ◌∙◌}
use mathlib.Core.List.{List, foldl, map}
use native.Mathlib.Numerals.{add-one}
use native.Mathlib.Nat.{add-zero}
use native.Mathlib.Omega.{arith}
use lib.ListN.{length, get_or, set, take, drop, drop_of_length-le, length-map}
use lib.Seq.{drop-cons, take-suc-set, take_all}
use Rattle.device_store.specs.Zones.{first, any, up_to}

-- a fold: the fold of what is left, from the value so far, is the fold of all
module _ {A B : Type 0} (f : B → A → B) (l : List A) where
  pub fold_turn : (d : A) (i : ℕ) (a b r : B) → i < length l → foldl f a (drop i l) ≡ r → b ≡ f a (get_or l i d) → foldl f b (drop (i + 1) l) ≡ r
  fold_turn d i a b r h inv e = rw (add-one, e) (rw (drop-cons l i d) at inv)

  pub fold_end : (i : ℕ) (a r : B) → length l ≤ i → foldl f a (drop i l) ≡ r → a ≡ r
  fold_end i a r h inv = rw (drop_of_length-le l h) at inv

module _ {A : Type 0} (p : A → Bool) (l : List A) where
  -- a search: the first index is i and the first index of what is left
  pub first-here : (d : A) (i : ℕ) → i < length l → first p l ≡ i + first p (drop i l) → p (get_or l i d) ≡ true → i ≡ first p l
  unfolding first
  first-here d i h inv e = sym (inv ∙ rw (drop-cons l i d, e, add-zero))

  pub first-turn : (d : A) (i : ℕ) → i < length l → first p l ≡ i + first p (drop i l) → p (get_or l i d) ≡ false → first p l ≡ (i + 1) + first p (drop (i + 1) l)
  unfolding first
  first-turn d i h inv e = inv ∙ rw (drop-cons l i d, e, add-one i) (omega arith)

  pub first-end : (i : ℕ) → length l ≤ i → first p l ≡ i + first p (drop i l) → i ≡ first p l
  unfolding first
  first-end i h inv = sym (inv ∙ rw (drop_of_length-le l h, add-zero))

  -- a test of some element: what is left decides
  pub any_here : (d : A) (i : ℕ) → i < length l → any p (drop i l) ≡ any p l → p (get_or l i d) ≡ true → true ≡ any p l
  unfolding any
  any_here d i h inv e = rw (drop-cons l i d, e) at inv

  pub any-turn : (d : A) (i : ℕ) → i < length l → any p (drop i l) ≡ any p l → p (get_or l i d) ≡ false → any p (drop (i + 1) l) ≡ any p l
  unfolding any
  any-turn d i h inv e = rw add-one (rw (drop-cons l i d, e) at inv)

  pub any-end : (i : ℕ) → length l ≤ i → any p (drop i l) ≡ any p l → false ≡ any p l
  unfolding any
  any-end i h inv = rw (drop_of_length-le l h) at inv

-- a filling: what stands below q is the list of the first q values
module _ {A : Type 0} (f : ℕ → A) (l : List A) where
  pub fill_turn : (q : ℕ) (v : A) → q < length l → take q l ≡ up_to f q → v ≡ f q → take (q + 1) (set l q v) ≡ up_to f (q + 1)
  unfolding up_to
  fill_turn q v h inv e = rw (add-one, take-suc-set l q v h, inv, e)

  pub fill_end : (q n : ℕ) → length l ≡ n → q ≤ n → n ≤ q → take q l ≡ up_to f q → l ≡ up_to f n
  fill_end q n e h k inv = let p : q ≡ n = omega arith in sym (take_all q l (omega arith)) ∙ inv ∙ ap (λ (m : ℕ). up_to f m) p

-- an array field of structs: owning it tells the length of the list mapped to values
pub length-of : {A B : Type 0} (f : A → B) (l : List A) (n : ℕ) → length (map f l) ≡ n → length l ≡ n
length-of f l n e = sym (length-map l f) ∙ e
