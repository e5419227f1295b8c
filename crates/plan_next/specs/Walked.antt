-- Walked row by row the next rows are the plan, and each is the first row of the plan that would be made at that second.
use Rattle.std.specs.Prelude.{ℕ, zero, suc, ◌≤◌, ◌≡◌, List, [], ◌∷◌, ℤ, length, Option, None, Some}
use Rattle.device_store.specs.Words.{clock_of}
use Rattle.device_holds.specs.Holds.{situation_of}
use Rattle.plan.specs.Rows.{last}
use Rattle.plan.specs.Plan.{plan_of, rows_from}
use Rattle.plan_next.specs.Next.{next_of, first_row}

-- a row that was found, and what is found from its second on
unfoldable pub onward : Option (ℕ × List ℤ) → (ℕ → List (ℕ × List ℤ)) → List (ℕ × List ℤ)
onward None rest = []
onward (Some r) rest = r ∷ rest r.0

-- the next row after t, then the next after that row's second, at most n of them
unfoldable pub row_by_row : (ℕ → Option (ℕ × List ℤ)) → ℕ → ℕ → List (ℕ × List ℤ)
row_by_row next zero t = []
row_by_row next (suc n) t = onward (next t) (row_by_row next n)

-- asked from the device's own second as often as there are rows, or oftener
abbrev pub WalkedIsPlan : Type 0
WalkedIsPlan = (ws : List ℕ) (n : ℕ) → length (rows_from ws) ≤ n → row_by_row (λ t. next_of t (rows_from ws)) n (clock_of ws) ≡ rows_from ws

abbrev pub NextOfPlan : Type 0
NextOfPlan = (ws : List ℕ) (t : ℕ) → clock_of ws ≤ t → t ≤ last → next_of t (rows_from ws) ≡ first_row (plan_of (situation_of ws) t)
