-- The call `plan`: its number, its answer, and what it leaves in the lent slice. The device is lent without the right to change it.
use Rattle.std.specs.Prelude.{ℕ, ◌+◌, Bool, cond, List, [], ◌∷◌, ◌++◌, ltb, eqb, ℤ, pos, length, drop}
use Rattle.device_store.specs.Sizes.{values}
use Rattle.device_store.specs.Words.{clock_of}
use Rattle.device_holds.specs.Holds.{Situation, situation_of, values_at}
use Rattle.refusals.specs.Refusals.{first_of, NO_SPACE}
use Rattle.plan.specs.Rows.{plan}
use Rattle.plan.specs.declared.Planned.{Planned}

-- the plan after second `now`, "links and override unmoved"
unfoldable pub plan_of : Situation → ℕ → List (ℕ × List ℤ)
plan_of s now = plan (values_at s) now

-- "Plan rows grow to twelve numbers": second, control state, then each quantity
abbrev pub row_size : ℕ
row_size = 1 + values

unfoldable pub numbers_of : List (ℕ × List ℤ) → List ℤ
numbers_of [] = []
numbers_of (r ∷ rs) = (pos r.0 ∷ r.1) ++ numbers_of rs

-- the rows from the device's own time on: "The plan too starts from the device's own time"
unfoldable pub rows_from : List ℕ → List (ℕ × List ℤ)
rows_from ws = plan_of (situation_of ws) (clock_of ws)

-- into a slice with room for so many numbers: 15 where the rows are longer, and no other refusal
abbrev pub plan_tests : List (ℕ × List ℤ) → ℕ → List (Bool × ℕ)
plan_tests rows room = (ltb room (length (numbers_of rows)), NO_SPACE) ∷ []

unfoldable pub plan_number : List ℕ → ℕ → ℕ
plan_number ws room = first_of (plan_tests (rows_from ws) room)

-- the number, and how many rows; "Beside a refusal, .. counts 0"
unfoldable pub plan_answer : List ℕ → ℕ → Planned
plan_answer ws room = record { number = plan_number ws room; count = cond (eqb (plan_number ws room) 0) (length (rows_from ws)) 0 }

-- numbers from the front of a slice, which past them stays as it was
unfoldable pub front : List ℤ → List ℤ → List ℤ
front ns old = ns ++ drop (length ns) old

-- the slice: the rows from the front, or as it was where the call is refused
unfoldable pub plan_slice : List ℕ → List ℤ → List ℤ
plan_slice ws old = cond (eqb (plan_number ws (length old)) 0) (front (numbers_of (rows_from ws)) old) old
