-- How the plan is found: from one due second to the next. It computes, and proofs/Walk.antt shows that it is the plan.
use Rattle.std.specs.Prelude.{ℕ, zero, suc, cond, List, [], ◌∷◌, ltb, ℤ}
use Rattle.device_store.specs.Sizes.{end}
use Rattle.device_holds.specs.Alike.{alike}
use Rattle.device_holds.specs.Dues.{nearest}

-- the rows from second n on, the next due one, where `old` held before it and `rows` are those after it
unfoldable pub step : (ℕ → List ℤ) → List ℤ → ℕ → List (ℕ × List ℤ) → List (ℕ × List ℤ)
step f old n rows = cond (ltb n end) (cond (alike (f n) old) rows ((n, f n) ∷ rows)) []

-- the rows after cur, from due to due
unfoldable pub walk : (ℕ → List ℤ) → List ℕ → ℕ → ℕ → List (ℕ × List ℤ)
walk f ds zero cur = []
walk f ds (suc fuel) cur = step f (f cur) (nearest cur ds) (walk f ds fuel (nearest cur ds))
