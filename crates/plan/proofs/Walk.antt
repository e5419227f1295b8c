-- The walk from due to due finds the plan of values that are steady between them.
use Prim.Native.Nat.{ℕ, zero, suc, ◌+◌, ◌*◌, ◌≤◌}
use mathlib.Core.Bool.{Bool, true, false, cond}
use mathlib.Core.Path.{◌≡◌, refl, sym, ap, ◌∙◌}
use mathlib.Core.Logic.{⊎_elim}
use mathlib.Core.List.{List, [], ◌∷◌}
use native.Mathlib.Omega.{arith}
use lib.Dec.{ltb}
use lib.IntN.{ℤ}
use lib.ListN.{length}
use borrow.Author.Tests.{ltb-true, ltb-false, le-ltb}
use Rattle.device_store.specs.Sizes.{end, slots, helds}
use Rattle.device_store.specs.Zones.{any_up}
use Rattle.device_store.specs.Words.{zones_of}
use Rattle.device_store.specs.Quantities.{lowest_values}
use Rattle.device_holds.specs.Holds.{Situation, situation_of, values_at}
use Rattle.device_holds.specs.Dues.{dues, nearest}
use Rattle.device_holds.proofs.Steady.{Idle, values-steady, dues-few, dues-few_down}
use Rattle.plan.specs.Rows.{plan}
use Rattle.plan.specs.Plan.{plan_of}
use Rattle.device_holds.specs.Alike.{alike}
use Rattle.plan.specs.Walk.{step, walk}
use Rattle.plan.proofs.Due.{Least, nearest-is, above, above_all, above_less}
use Rattle.plan.proofs.Quiet.{plan-over, plan-next}

module _ (f : ℕ → List ℤ) (ds : List ℕ) (steady : (t : ℕ) → Idle (suc t) ds → f (suc t) ≡ f t) where
  -- the plan after cur is what the next due second adds to the plan after that
  pub plan-step : (cur : ℕ) → plan f cur ≡ step f (f cur) (nearest cur ds) (plan f (nearest cur ds))
  unfolding step
  plan-step cur = go (nearest cur ds) (nearest-is cur ds) (ltb (nearest cur ds) end) refl
    where
      go : (n : ℕ) → Least cur end ds n → (b : Bool) → ltb n end ≡ b → plan f cur ≡ cond b (cond (alike (f n) (f cur)) (plan f n) ((n, f n) ∷ plan f n)) []
      go n l true e =
          ⊎_elim
          (λ q. absurd (omega (arith, ltb-true)))
          (λ k. plan-next f cur n k.0 (omega (arith, ltb-true)) (λ t a b. steady t (λ m. omega (arith, l.least (suc t) m (omega arith)))))
          l.found
      go n l false e = plan-over f cur (λ t a b. steady t (λ m. omega (arith, ltb-false, l.least (suc t) m (omega arith))))

  -- past the end nothing is added
  step_end : (old : List ℤ) (n : ℕ) (rows : List (ℕ × List ℤ)) → n ≡ end → step f old n rows ≡ []
  unfolding step
  step_end old n rows e = rw (le-ltb n end (omega arith))

  -- the walk is the plan, given as many steps as there are dues left
  walk-plan : (fuel cur : ℕ) → above cur ds ≤ fuel → walk f ds fuel cur ≡ plan f cur
  unfolding walk
  walk-plan zero cur h =
      ⊎_elim
      (λ q. sym (plan-step cur ∙ step_end (f cur) (nearest cur ds) _ q))
      (λ k. absurd (omega (arith, above_less cur (nearest cur ds) k.0 ds k.1)))
      (nearest-is cur ds).found
  walk-plan (suc fuel) cur h =
      ⊎_elim
      (λ q. step_end (f cur) (nearest cur ds) _ q ∙ sym (plan-step cur ∙ step_end (f cur) (nearest cur ds) _ q))
      (λ k. ap (step f (f cur) (nearest cur ds)) (walk-plan fuel (nearest cur ds) (omega (arith, above_less cur (nearest cur ds) k.0 ds k.1))) ∙ sym (plan-step cur))
      (nearest-is cur ds).found

  pub plan-walk : (cur : ℕ) → plan f cur ≡ walk f ds (length ds) cur
  plan-walk cur = sym (walk-plan (length ds) cur (above_all cur ds))

-- a walk has no more rows than steps
walk-few : (f : ℕ → List ℤ) (ds : List ℕ) (fuel cur : ℕ) → length (walk f ds fuel cur) ≤ fuel
unfolding walk step
walk-few f ds zero cur = omega arith
walk-few f ds (suc fuel) cur =
    go (ltb (nearest cur ds) end) (alike (f (nearest cur ds)) (f cur)) (walk f ds fuel (nearest cur ds)) (walk-few f ds fuel (nearest cur ds))
  where
    go : (b c : Bool) (l : List (ℕ × List ℤ)) → length l ≤ fuel → length (cond b (cond c l ((nearest cur ds, f (nearest cur ds)) ∷ l)) []) ≤ suc fuel
    go true true l h = omega arith
    go true false l h = omega arith
    go false c l h = omega arith

-- found from due to due, so that it computes
pub plan_of-walk : (s : Situation) (now : ℕ) → plan_of s now ≡ walk (values_at s) (dues s) (length (dues s)) now
unfolding plan_of
plan_of-walk s now = plan-walk (values_at s) (dues s) (values-steady s) now

pub plan_of-step : (s : Situation) (cur : ℕ) → plan_of s cur ≡ step (values_at s) (values_at s cur) (nearest cur (dues s)) (plan_of s (nearest cur (dues s)))
unfolding plan_of
plan_of-step s cur = plan-step (values_at s) (dues s) (values-steady s) cur

-- "the bound on rows is 80", on every content of the words
pub plan_of-few : (ws : List ℕ) (now : ℕ) → length (plan_of (situation_of ws) now) ≤ slots * helds
plan_of-few ws now =
    let s = situation_of ws in
    omega (arith, ap length (plan_of-walk s now), walk-few (values_at s) (dues s) (length (dues s)) now, dues-few ws)

-- "the 17 of L3 becomes 65": a plan made in FAILSAFE, likewise
pub plan_of-few_down : (ws : List ℕ) (now : ℕ) → any_up (zones_of ws) ≡ false → length (plan_of (situation_of ws) now) ≤ 1 + slots * lowest_values
plan_of-few_down ws now e =
    let s = situation_of ws in
    omega (arith, ap length (plan_of-walk s now), walk-few (values_at s) (dues s) (length (dues s)) now, dues-few_down ws e)
