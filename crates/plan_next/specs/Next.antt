-- The next row of the plan after a second: "the first row of the plan with a second above t, for t from the device's own on; 5 else".
use Rattle.std.specs.Prelude.{ℕ, cond, List, [], ◌∷◌, ltb, eqb, ℤ, pos, negsuc, replicate, Option, None, Some, Result, Ok, Err}
use Rattle.refusals.specs.Refusals.{first_of, BAD_TIME}
use Rattle.refusals.specs.Answers.{number_of}
use Rattle.refusals.specs.declared.refusal.Refusal.{Refusal}
use Rattle.device_store.specs.Words.{clock_of}
use Rattle.device_rules.specs.Rules.{late}
use Rattle.plan.specs.Plan.{row_size, rows_from}

-- "the first row .. with a second above t"
unfoldable pub next_of : ℕ → List (ℕ × List ℤ) → Option (ℕ × List ℤ)
next_of t [] = None
next_of t (r ∷ rs) = cond (ltb t r.0) (Some r) (next_of t rs)

-- the first row of all
unfoldable pub first_row : List (ℕ × List ℤ) → Option (ℕ × List ℤ)
first_row [] = None
first_row (r ∷ rs) = Some r

-- "from the device's own on; 5 else", and no other refusal
unfoldable pub next_number : List ℕ → ℕ → ℕ
next_number ws t = first_of ((late (clock_of ws) t, BAD_TIME) ∷ [])

-- the numbers of a row, "second, control state, then each quantity"
unfoldable pub row_numbers : Option (ℕ × List ℤ) → Option (List ℤ)
row_numbers None = None
row_numbers (Some r) = Some (pos r.0 ∷ r.1)

-- an answer: its number, how many rows it has, none or one, and that row's numbers
pub record Answer : Type 0 where
  pub number : ℕ
  pub count : ℕ
  pub row : List ℤ

-- a number, and a row's numbers; -1 each where there is none
unfoldable pub answer_with : ℕ → Option (List ℤ) → Answer
answer_with n None = record { number = n; count = 0; row = replicate row_size (negsuc 0) }
answer_with n (Some ns) = record { number = n; count = 1; row = ns }

-- what the call says, as such an answer
unfoldable pub next_said : Result (Option (List ℤ)) Refusal → Answer
next_said (Ok row) = answer_with 0 row
next_said (Err e) = answer_with (number_of e) None

-- a number, and a row as the plan has it
unfoldable pub answer_of : ℕ → Option (ℕ × List ℤ) → Answer
answer_of n None = record { number = n; count = 0; row = replicate row_size (negsuc 0) }
answer_of n (Some r) = record { number = n; count = 1; row = pos r.0 ∷ r.1 }

-- beside a refusal there is none
unfoldable pub next_answer : List ℕ → ℕ → Answer
next_answer ws t = answer_of (next_number ws t) (cond (eqb (next_number ws t) 0) (next_of t (rows_from ws)) None)
