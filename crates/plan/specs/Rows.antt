-- The plan as mathematics, over the values f t of each second t: a definition that nobody runs.
use Rattle.std.specs.Prelude.{ℕ, zero, suc, ◌-◌, ◌<◌, ◌≤◌, ◌≡◌, ◌≢◌, ℤ}
use Rattle.std.proofs.Math.Logic.{ite}
use mathlib.Core.List.{List, [], ◌∷◌, Memᴰ, List-discrete}
use Rattle.std.proofs.Math.IntN.{ℤ_discrete}
use Rattle.device_store.specs.Sizes.{end}

-- the last second: "up to 2^40 - 1"
abbrev pub last : ℕ
last = end - 1

-- the rows of the n seconds after `now`: "A row stands for each second .. whose .. values differ from the second before": the state's and all ten quantities'
unfoldable pub rows_of : (ℕ → List ℤ) → ℕ → ℕ → List (ℕ × List ℤ)
rows_of f now zero = []
rows_of f now (suc n) =
    ite (List-discrete ℤ_discrete (f (suc now)) (f now))
    (rows_of f (suc now) n)
    ((suc now, f (suc now)) ∷ rows_of f (suc now) n)

-- the rows of "each second after now, up to 2^40 - 1"
unfoldable pub plan : (ℕ → List ℤ) → ℕ → List (ℕ × List ℤ)
plan f now = rows_of f now (last - now)

-- The same said as a relation, which only the plan has.
-- the values change at second t
unfoldable pub Changes : (ℕ → List ℤ) → ℕ → Type 0
Changes f zero = ⊥
Changes f (suc t) = f (suc t) ≢ f t

-- in order and each once, all past second a
unfoldable pub Ascending : ℕ → List (ℕ × List ℤ) → Type 0
Ascending a [] = Unit {0}
Ascending a (r ∷ rs) = (a < r.0) × Ascending r.0 rs

pub record IsPlan (f : ℕ → List ℤ) (now : ℕ) (rs : List (ℕ × List ℤ)) : Type 0 where
  pub ascending : Ascending now rs
  -- a row stands only where the values change, with the values from then on
  pub sound : (r : ℕ × List ℤ) → Memᴰ r rs → (r.0 ≤ last) × Changes f r.0 × (r.1 ≡ f r.0)
  -- every change has its row
  pub whole : (t : ℕ) → now < t → t ≤ last → Changes f t → Memᴰ (t, f t) rs
