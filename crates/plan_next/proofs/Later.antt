-- The rows behind a second are those of the plan that is made there.
use Prim.Native.Nat.{ℕ, zero, suc, ◌+◌, ◌-◌, ◌≤◌}
use mathlib.Core.Path.{◌≡◌, refl, sym, ap, ◌∙◌, subst}
use Rattle.std.specs.Prelude.{Option, None, Some, Ok, Err}
use Rattle.refusals.specs.Refusals.{first_of, BAD_TIME}
use Rattle.refusals.specs.declared.refusal.Refusal.{Refusal}
use mathlib.Core.Bool.{Bool, true, false, ◌||◌}
use mathlib.Core.Logic.{ite}
use mathlib.Core.List.{List, [], ◌∷◌, List-discrete}
use native.Mathlib.Nat.{add-zero}
use native.Mathlib.Omega.{arith}
use borrow.Author.Tests.{lt-ltb, le-ltb, ltb-false, leb-false}
use lib.Dec.{ltb, leb}
use lib.IntN.{ℤ, ℤ_discrete}
use Rattle.device_store.specs.Sizes.{end}
use Rattle.device_store.specs.Words.{clock_of}
use Rattle.device_store.proofs.Tests.{never}
use Rattle.device_rules.specs.Rules.{late}
use Rattle.device_holds.specs.Holds.{situation_of, values_at}
use Rattle.plan.specs.Rows.{last, rows_of, plan, Ascending}
use Rattle.plan.specs.Plan.{plan_of, rows_from}
use Rattle.plan.proofs.IsPlan.{plan-is}
use Rattle.plan_next.specs.Next.{next_of, first_row, next_number, next_said, next_answer, row_numbers, answer_with, answer_of}
use Rattle.plan_next.specs.Walked.{NextOfPlan}

-- rows that are all past a
pub next-own : (rs : List (ℕ × List ℤ)) (a : ℕ) → Ascending a rs → next_of a rs ≡ first_row rs
unfolding next_of first_row Ascending
next-own [] a o = refl
next-own (r ∷ rs) a o = rw (lt-ltb a r.0 o.0)

-- a row that is not past t is passed over
pub next-over : (r : ℕ × List ℤ) (rs : List (ℕ × List ℤ)) (t : ℕ) → r.0 ≤ t → next_of t (r ∷ rs) ≡ next_of t rs
unfolding next_of
next-over r rs t h = rw (le-ltb t r.0 h)

-- the rows after a + 1, asked for at b
abbrev Rest : (ℕ → List ℤ) → ℕ → ℕ → ℕ → Type 0
Rest f a m b = next_of b (rows_of f (suc a) m) ≡ first_row (rows_of f b (last - b))

module _ (f : ℕ → List ℤ) where
  ascending : (a : ℕ) → Ascending a (rows_of f a (last - a))
  unfolding plan
  ascending a = (plan-is f a).ascending

  shift : (k a m : ℕ) → a + k ≤ last → m ≡ last - a → next_of (a + k) (rows_of f a m) ≡ first_row (rows_of f (a + k) (last - (a + k)))
  unfolding rows_of
  shift zero a m h e = rw (add-zero a, e) (next-own (rows_of f a (last - a)) a (ascending a))
  shift (suc k) a zero h e = absurd (omega arith)
  shift (suc k) a (suc m) h e = go (List-discrete ℤ_discrete (f (suc a)) (f a)) (moved (shift k (suc a) m (omega arith) (omega arith)))
    where
      moved : Rest f a m (suc a + k) → Rest f a m (a + suc k)
      moved p = let at : suc a + k ≡ a + suc k = omega arith in subst (λ (b : ℕ). Rest f a m b) at p

      go : (d : Dec (f (suc a) ≡ f a)) → Rest f a m (a + suc k)
          → next_of (a + suc k) (ite d (rows_of f (suc a) m) ((suc a, f (suc a)) ∷ rows_of f (suc a) m)) ≡ first_row (rows_of f (a + suc k) (last - (a + suc k)))
      go (yes e) rest = rest
      go (no e) rest = next-over (suc a, f (suc a)) (rows_of f (suc a) m) (a + suc k) (omega arith) ∙ rest

  pub later : (a b : ℕ) → a ≤ b → b ≤ last → next_of b (plan f a) ≡ first_row (plan f b)
  unfolding plan
  later a b h g =
      let e : a + (b - a) ≡ b = omega arith in
      subst (λ (c : ℕ). next_of c (rows_of f a (last - a)) ≡ first_row (rows_of f c (last - c))) e (shift (b - a) a (last - a) (omega arith) refl)

pub next_of-plan : NextOfPlan
unfolding rows_from plan_of
next_of-plan ws t h g = later (values_at (situation_of ws)) (clock_of ws) t h g

-- a second that is not refused
pub next-in_time : (ws : List ℕ) (t : ℕ) → late (clock_of ws) t ≡ false → next_of t (rows_from ws) ≡ first_row (plan_of (situation_of ws) t)
unfolding late
next-in_time ws t e = go (ltb t (clock_of ws)) refl (leb end t) refl e
  where
    go : (a : Bool) → ltb t (clock_of ws) ≡ a → (b : Bool) → leb end t ≡ b → (a || b) ≡ false → next_of t (rows_from ws) ≡ first_row (plan_of (situation_of ws) t)
    go true p b q f = absurd (never f)
    go false p true q f = absurd (never f)
    go false p false q f = next_of-plan ws t (ltb-false t (clock_of ws) p) (let h = leb-false end t q in omega arith)

-- how an answer is made: refused without a row, or with the first row of the plan that would be made at t
with_row : (n : ℕ) (o : Option (ℕ × List ℤ)) → answer_with n (row_numbers o) ≡ answer_of n o
unfolding answer_with row_numbers answer_of
with_row n None = refl
with_row n (Some r) = refl

pub answer_refused : (ws : List ℕ) (t : ℕ) → late (clock_of ws) t ≡ true → next_said (Err Refusal.BadTime) ≡ next_answer ws t
unfolding next_said next_answer next_number first_of row_numbers
answer_refused ws t e = rw e (with_row BAD_TIME None)

pub answer_found : (ws : List ℕ) (t : ℕ) → late (clock_of ws) t ≡ false → next_said (Ok (row_numbers (first_row (plan_of (situation_of ws) t)))) ≡ next_answer ws t
unfolding next_said next_answer next_number first_of
answer_found ws t e = rw e (with_row 0 (first_row (plan_of (situation_of ws) t)) ∙ ap (answer_of 0) (sym (next-in_time ws t e)))

pub ruleset answers = (answer_refused, answer_found)
