-- Searches over the places of a list, and arrays made from a function of the place.
use Prim.Native.Nat.{ℕ, zero, suc, ◌+◌, ◌<◌, ◌≤◌}
use mathlib.Core.Bool.{Bool, true, false, cond, not, ◌||◌}
use mathlib.Core.Path.{◌≡◌, refl, sym, ap, ◌∙◌}
use mathlib.Core.List.{List, [], ◌∷◌, map}
use native.Mathlib.Omega.{arith}
use native.Mathlib.Decide.{dec_lt}
use native.Mathlib.Nat.{le_of_suc-le-suc, not-suc-le-zero, add-zero}
use denote.Param.Members.{Mut, Called}
use borrow.Author.Tests.{lt-ltb, le-ltb}
use lib.Dec.{ltb}
use lib.ListN.{length, get_or}
use Rattle.std.specs.declared.option.Option.TheVariants.{Some, None}
use Rattle.std.specs.Array.{IsFromFnResult, IsFromFnResultFrom}
use Rattle.std.specs.List.{range_with_len, position_or_len, prefix_len, list_any}
use Rattle.std.specs.Option.{unwrap_or}
use Rattle.std.proofs.lemmas.List.FromFn.{fill_by_all}
use Rattle.device_store.specs.Zones.{first, any, up_to}
use Rattle.device_store.proofs.Runs.{up_to-list}

module _ {A : Type 0} (p : A → Bool) where
  first-map : (f : ℕ → A) (xs : List ℕ) → position_or_len (λ i. p (f i)) xs ≡ first p (map f xs)
  unfolding first
  first-map f [] = refl
  first-map f (x ∷ xs) = go (first-map f xs) (p (f x))
    where
      go : position_or_len (λ i. p (f i)) xs ≡ first p (map f xs) → (b : Bool) → cond (not b) (1 + position_or_len (λ i. p (f i)) xs) 0 ≡ cond b 0 (suc (first p (map f xs)))
      go ih true = refl
      go ih false = let e : position_or_len (λ i. p (f i)) xs ≡ first p (map f xs) = ih in omega arith

  any-map : (f : ℕ → A) (xs : List ℕ) → list_any (λ i. p (f i)) xs ≡ any p (map f xs)
  unfolding any
  any-map f [] = refl
  any-map f (x ∷ xs) = ap (λ (b : Bool). p (f x) || b) (any-map f xs)

  -- the places of a list, one by one, are the list
  pub first-over : (l : List A) (n : ℕ) (d : A) → length l ≡ n → position_or_len (λ i. p (get_or l i d)) (range_with_len 0 n) ≡ first p l
  first-over l n d e = first-map (λ i. get_or l i d) (range_with_len 0 n) ∙ ap (first p) (sym (fill_by_all (λ i. get_or l i d) l n d e (λ k h. refl)))

  pub any-over : (l : List A) (n : ℕ) (d : A) → length l ≡ n → list_any (λ i. p (get_or l i d)) (range_with_len 0 n) ≡ any p l
  any-over l n d e = any-map (λ i. get_or l i d) (range_with_len 0 n) ∙ ap (any p) (sym (fill_by_all (λ i. get_or l i d) l n d e (λ k h. refl)))

found-within : {A : Type 0} (p : A → Bool) (xs : List A) → prefix_len p xs ≤ length xs
found-within p [] = omega arith
found-within p (x ∷ xs) = go (found-within p xs) (p x)
  where
    go : prefix_len p xs ≤ length xs → (b : Bool) → cond b (1 + prefix_len p xs) 0 ≤ suc (length xs)
    go ih true = omega arith
    go ih false = omega arith

-- the place that a search finds, and the length where it finds none
pub place : {A : Type 0} (p : A → Bool) (xs : List A) → unwrap_or (cond (ltb (position_or_len p xs) (length xs)) (Some (position_or_len p xs)) None) (length xs) ≡ position_or_len p xs
place p xs = go (position_or_len p xs) (length xs) (found-within (λ x. not (p x)) xs)
  where
    go : (m n : ℕ) → m ≤ n → unwrap_or (cond (ltb m n) (Some m) None) n ≡ m
    go m n h = elim (dec_lt m n) [ yes k ↦ rw (lt-ltb m n k) | no k ↦ let e : n ≡ m = omega arith in rw (le-ltb m n (omega arith)) e ]

-- an array made by a function that answers h at each place, and stays as it is
module _ {F B : Type 0} (g : Mut F (ℕ × Unit {0}) B) (h : ℕ → B) (f : F) (same : (i : ℕ) (y : B) (q : F) → Called g f (i, tt) y q → (y ≡ h i) × (q ≡ f)) where
  made-from : (ys : List B) (i n : ℕ) (p : F) → p ≡ f → IsFromFnResultFrom g p ys i n → (k : ℕ) → k < n → (d : B) → get_or ys (i + k) d ≡ h (i + k)
  made-from ys i zero p e r k b d = absurd (not-suc-le-zero b)
  made-from ys i (suc n) p e (q, y, at, call, rest) zero b d =
      let c : Called g f (i, tt) y q = rw e at call in
      rw (add-zero i) (at.1 d ∙ (same i y q c).0)
  made-from ys i (suc n) p e (q, y, at, call, rest) (suc k) b d =
      let c : Called g f (i, tt) y q = rw e at call in
      let m : i + suc k ≡ (i + 1) + k = omega arith in
      rw m (made-from ys (i + 1) n q (same i y q c).1 rest k (le_of_suc-le-suc b) d)

  pub made : (ys : List B) (n : ℕ) (d : B) → IsFromFnResult g f ys n → ys ≡ up_to h n
  made ys n d r = sym (up_to-list h n ys d r.long (λ q b. let z : 0 + q ≡ q = omega arith in sym (rw z at (made-from ys 0 n f refl r.each q b d))))
