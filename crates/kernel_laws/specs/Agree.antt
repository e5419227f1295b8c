-- "Prove that its rows and the first planner's at that second are equal, field by field, in every state": of any content of the words.
use Rattle.std.specs.Prelude.{ℕ, ◌*◌, ◌≡◌, List, [], ◌∷◌, ◌++◌, ℤ, pos}
use Rattle.plan.specs.Plan.{row_size, numbers_of, rows_from, plan_number, plan_answer}
use Rattle.plan_plain.specs.Records.{rows_now, records_of, plain_number, plain_answer}
use Rattle.plan_plain.specs.declared.Row.{Row}

-- the rows are the first planner's, from the device's last time on
abbrev pub SameRows : Type 0
SameRows = (ws : List ℕ) → rows_now ws ≡ rows_from ws

-- the twelve fields of a record, in the order of a row's numbers
unfoldable pub fields_of : Row → List ℤ
fields_of r =
    pos r.second ∷ r.state ∷ r.limitConsumption ∷ r.limitProduction ∷ r.setpointConsumption ∷ r.setpointProduction
    ∷ r.aConsumption ∷ r.aProduction ∷ r.bConsumption ∷ r.bProduction ∷ r.cConsumption ∷ r.cProduction ∷ []

unfoldable pub all_fields : List Row → List ℤ
all_fields [] = []
all_fields (r ∷ rs) = fields_of r ++ all_fields rs

-- and field by field each record is the row's numbers
abbrev pub SameFields : Type 0
SameFields = (ws : List ℕ) → all_fields (records_of (rows_now ws)) ≡ numbers_of (rows_from ws)

-- with as much room both refuse, or neither, and count the same
abbrev pub SameAnswer : Type 0
SameAnswer =
    (ws : List ℕ) (room : ℕ)
    → (plain_number ws room ≡ plan_number ws (room * row_size)) × ((plain_answer ws room).count ≡ (plan_answer ws (room * row_size)).count)
