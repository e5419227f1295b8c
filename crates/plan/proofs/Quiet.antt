-- Seconds at which nothing changes are passed over.
use Prim.Native.Nat.{ℕ, zero, suc, ◌+◌, ◌-◌, ◌<◌, ◌≤◌}
use mathlib.Core.Bool.{cond}
use mathlib.Core.Path.{◌≡◌, ap, ◌∙◌}
use mathlib.Core.List.{List, [], ◌∷◌}
use native.Mathlib.Decide.{dec_lt}
use native.Mathlib.Nat.{suc-add, zero-add, add-suc, add-zero}
use native.Mathlib.Omega.{arith}
use lib.IntN.{ℤ}
use Rattle.plan.specs.Rows.{last, rows_of, plan}
use Rattle.device_holds.specs.Alike.{alike}
use Rattle.device_holds.proofs.SameValues.{alike_same, by_test}

module _ (f : ℕ → List ℤ) where
  rows_step : (now n : ℕ) → rows_of f now (suc n) ≡ cond (alike (f (suc now)) (f now)) (rows_of f (suc now) n) ((suc now, f (suc now)) ∷ rows_of f (suc now) n)
  unfolding rows_of
  rows_step now n = by_test (f (suc now)) (f now) _ _

  -- nothing changes after a, up to b
  abbrev pub Quiet : ℕ → ℕ → Type 0
  Quiet a b = (t : ℕ) → a ≤ t → t < b → f (suc t) ≡ f t

  quiet_values : (k a : ℕ) → Quiet a (a + k) → f (a + k) ≡ f a
  quiet_values zero a q = ap f (add-zero a)
  quiet_values (suc k) a q =
      let s : a + suc k ≡ suc (a + k) = add-suc a k in
      ap f s ∙ q (a + k) (omega arith) (omega arith) ∙ quiet_values k a (λ t h g. q t h (omega arith))

  rows-quiet : (k a n : ℕ) → Quiet a (a + k) → rows_of f a (k + n) ≡ rows_of f (a + k) n
  rows-quiet zero a n q = rw (zero-add, add-zero)
  rows-quiet (suc k) a n q =
      let e : f (suc a) ≡ f a = q a (omega arith) (omega arith) in
      rw (suc-add k n, rows_step a (k + n), e, alike_same (f a), rows-quiet k (suc a) n (λ t h g. q t (omega arith) (omega arith)))
      (ap (λ (x : ℕ). rows_of f x n) (omega arith))

  -- quiet seconds are passed over
  plan-quiet : (a b : ℕ) → a ≤ b → b ≤ last → Quiet a b → (plan f a ≡ plan f b) × (f b ≡ f a)
  unfolding plan
  plan-quiet a b h g q =
      let e : a + (b - a) ≡ b = omega arith in
      let d : last - a ≡ (b - a) + (last - b) = omega arith in
      let r : Quiet a (a + (b - a)) = λ t h₁ h₂. q t h₁ (omega arith) in
      (rw d (rw e at (rows-quiet (b - a) a (last - b) r)), rw e at (quiet_values (b - a) a r))

  -- nothing changes any more
  plan-late : (a : ℕ) → last ≤ a → plan f a ≡ []
  unfolding plan rows_of
  plan-late a h = let z : last - a ≡ 0 = omega arith in ap (λ (n : ℕ). rows_of f a n) z

  pub plan-over : (a : ℕ) → Quiet a last → plan f a ≡ []
  plan-over a q =
      elim (dec_lt last a) [
        | yes h ↦ plan-late a (omega arith)
        | no h ↦ (plan-quiet a last (omega arith) (omega arith) q).0 ∙ plan-late last (omega arith)
      ]

  -- n is the next second at which anything can change
  pub plan-next : (cur n : ℕ) → cur < n → n ≤ last → Quiet cur (n - 1) → plan f cur ≡ cond (alike (f n) (f cur)) (plan f n) ((n, f n) ∷ plan f n)
  unfolding plan
  plan-next cur zero h g q = absurd (omega arith)
  plan-next cur (suc m) h g q =
      let p = plan-quiet cur m (omega arith) (omega arith) (λ t a b. q t a (omega arith)) in
      let e : last - m ≡ suc (last - suc m) = omega arith in
      p.0 ∙ rw (e, rows_step m (last - suc m), p.1)
