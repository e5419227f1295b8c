-- The rows from a row's second on: from one to the next they are the rows of the plan, each once.
use Prim.Native.Nat.{ℕ, zero, suc, ◌+◌, ◌-◌, ◌<◌, ◌≤◌}
use mathlib.Core.Bool.{Bool, true, false, cond}
use mathlib.Core.Path.{◌≡◌, refl, ap}
use mathlib.Core.Logic.{◌⊎◌, inl, inr, ⊎_elim}
use mathlib.Core.List.{List, [], ◌∷◌}
use native.Mathlib.Decide.{dec_lt}
use native.Mathlib.Omega.{arith}
use lib.Dec.{ltb}
use lib.ListN.{length}
use borrow.Author.Tests.{lt-ltb, le-ltb}
use Rattle.device_store.specs.Sizes.{end}
use Rattle.device_holds.specs.Holds.{Situation}
use Rattle.plan_plain.specs.Plain.{stands, seconds_of, plain_seconds, first_or, next_row}
use Rattle.plan_plain.proofs.Next.{seconds_few, seconds_over}

-- none, or the first and those after it
abbrev Split : (ℕ → Bool) → ℕ → ℕ → List ℕ → Type 0
Split p a b l = (l ≡ []) ⊎ ((n : ℕ) × (a < n) × (n ≤ b) × (l ≡ n ∷ seconds_of p n (b - n)))

seconds_split : (p : ℕ → Bool) (k a b : ℕ) → a + k ≡ b → Split p a b (seconds_of p a k)
unfolding seconds_of
seconds_split p zero a b e = inl refl
seconds_split p (suc k) a b e = go (p (suc a)) (seconds_split p k (suc a) b (omega arith))
  where
    go : (c : Bool) → Split p (suc a) b (seconds_of p (suc a) k) → Split p a b (cond c (suc a ∷ seconds_of p (suc a) k) (seconds_of p (suc a) k))
    go true r = let m : k ≡ b - suc a = omega arith in inr (suc a, omega arith, omega arith, ap (λ (j : ℕ). suc a ∷ seconds_of p (suc a) j) m)
    go false r = ⊎_elim inl (λ x. inr (x.0, omega (arith, x.1), x.2, x.3)) r

module _ (s : Situation) where
  split : (t : ℕ) → (plain_seconds s t ≡ []) ⊎ ((n : ℕ) × (t < n) × (n < end) × (plain_seconds s t ≡ n ∷ plain_seconds s n))
  unfolding plain_seconds
  split t =
      elim (dec_lt t end) [
        | yes h ↦ ⊎_elim inl (λ x. inr (x.0, x.1, omega (arith, x.2), x.3)) (seconds_split (stands s) (end - 1 - t) t (end - 1) (omega arith))
        | no h ↦ inl (seconds_over s t (omega arith))
      ]

  -- the rows from second t on, where t is a row's second, or none is left
  abbrev pub onward : ℕ → List ℕ
  onward t = cond (ltb t end) (t ∷ plain_seconds s t) []

  pub onward-over : (t : ℕ) → end ≤ t → onward t ≡ []
  onward-over t h = rw (le-ltb t end h)

  pub onward-more : (t : ℕ) → t < end → onward t ≡ t ∷ plain_seconds s t
  onward-more t h = rw (lt-ltb t end h)

  pub onward-next : (t : ℕ) → onward (next_row s t) ≡ plain_seconds s t
  unfolding next_row first_or
  onward-next t =
      ⊎_elim
      (λ e. rw e (onward-over end (omega arith)))
      (λ x. rw x.3 (onward-more x.0 x.2))
      (split t)

  -- the next row lies past the last
  pub row-later : (t : ℕ) → t < end → t < next_row s t
  unfolding next_row first_or
  row-later t h = ⊎_elim (λ e. rw e h) (λ x. rw x.3 x.1) (split t)

  pub rows_few : (t : ℕ) → length (plain_seconds s t) ≤ end
  unfolding plain_seconds
  rows_few t = omega (arith, seconds_few (stands s) (end - 1 - t) t)

  -- COUNTING: n rows are counted, and t is the second of the next
  pub record Counted (start n t : ℕ) : Type 0 where
    pub total : n + length (onward t) ≡ length (plain_seconds s start)

  pub counted_start : (start t : ℕ) → t ≡ next_row s start → Counted start 0 t
  counted_start start t e = record { total = rw e (omega (arith, ap length (onward-next start))) }

  module _ (start n t : ℕ) (so_far : Counted start n t) where
    pub counted-room : t < end → n < end
    counted-room h = omega (arith, so_far.total, ap length (onward-more t h), rows_few start)

    pub counted-more : t < end → (m : ℕ) → m ≡ next_row s t → Counted start (n + 1) m
    counted-more h m e = record { total = rw e (omega (arith, so_far.total, ap length (onward-more t h), ap length (onward-next t))) }

    pub counted-end : end ≤ t → n ≡ length (plain_seconds s start)
    counted-end h = omega (arith, so_far.total, ap length (onward-over t h))
