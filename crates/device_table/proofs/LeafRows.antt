-- A row filled place by place, below the bound of each direction.
use Prim.Native.Nat.{ℕ, zero, suc, ◌+◌, ◌<◌, ◌≤◌}
use mathlib.Core.Bool.{Bool, true, false, cond}
use mathlib.Core.Path.{◌≡◌, refl, ◌∙◌}
use mathlib.Core.List.{List, [], ◌∷◌}
use native.Mathlib.Omega.{arith}
use native.Mathlib.Decide.{ℕ_discrete}
use lib.IntN.{ℤ, pos}
use lib.ListN.{length, get_or, set}
use lib.Seq.{get_or-set_same, get_or-set_other}
use Rattle.device_store.specs.Quantities.{supports}
use Rattle.device_store.specs.Sizes.{value_end}
use Rattle.device_table.specs.Leaves.{top_of, Filled}

-- an array filled behind its first place, one place more
pub fill_more : (f : ℕ → ℤ) (v : List ℤ) (q : ℕ) (a : ℤ) → q + 1 < length v → Filled f v q → a ≡ f q → Filled f (set v (q + 1) a) (q + 1)
fill_more f v q a h inv e k l =
    elim (ℕ_discrete k q) [
      | yes p ↦ rw p (get_or-set_same v (q + 1) a (pos 0) h ∙ e)
      | no p ↦ get_or-set_other v (q + 1) (k + 1) a (pos 0) (λ x. p (omega arith)) ∙ inv k (omega arith)
    ]

-- a bound for each direction: where it is not supported nothing lies below
pub top_small : (has d : ℕ) → top_of has d ≤ value_end
unfolding top_of
top_small has d = go (supports has d)
  where
    go : (b : Bool) → cond b value_end 0 ≤ value_end
    go true = omega arith
    go false = omega arith

-- one bound for each direction, by its number
pub top_at : (has m : ℕ) → m < 2 → get_or (top_of has 0 ∷ top_of has 1 ∷ []) m 0 ≡ top_of has m
top_at has zero h = refl
top_at has (suc zero) h = refl
top_at has (suc (suc m)) h = absurd (omega arith)
