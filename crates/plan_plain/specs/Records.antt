-- The rows as records, the answer, and what is left in the lent slice.
use Rattle.std.specs.Prelude.{ℕ, zero, suc, cond, List, [], ◌∷◌, ◌++◌, ltb, ℤ, pos, length, drop, get_or, set}
use Rattle.device_store.specs.Words.{clock_of}
use Rattle.device_holds.specs.Holds.{Situation, situation_of, values_at}
use Rattle.plan_plain.specs.Plain.{plain_rows, next_row}
use Rattle.plan_plain.specs.declared.Row.{Row}
use Rattle.plan_plain.specs.declared.Planned.{Planned}
use Rattle.refusals.specs.Refusals.{NO_SPACE}

-- "one record a row, so the debugger shows names"
unfoldable pub row_of : ℕ → List ℤ → Row
row_of t vs =
    record {
      second = t;
      state = get_or vs 0 (pos 0);
      limitConsumption = get_or vs 1 (pos 0);
      limitProduction = get_or vs 2 (pos 0);
      setpointConsumption = get_or vs 3 (pos 0);
      setpointProduction = get_or vs 4 (pos 0);
      aConsumption = get_or vs 5 (pos 0);
      aProduction = get_or vs 6 (pos 0);
      bConsumption = get_or vs 7 (pos 0);
      bProduction = get_or vs 8 (pos 0);
      cConsumption = get_or vs 9 (pos 0);
      cProduction = get_or vs 10 (pos 0);
    }

unfoldable pub records_of : List (ℕ × List ℤ) → List Row
records_of [] = []
records_of (r ∷ rs) = row_of r.0 r.1 ∷ records_of rs

-- "It works at the device's last time, takes none"
abbrev pub rows_now : List ℕ → List (ℕ × List ℤ)
rows_now ws = plain_rows (situation_of ws) (clock_of ws)

-- "15 exactly when there are more rows than records"
unfoldable pub plain_number : List ℕ → ℕ → ℕ
plain_number ws room = cond (ltb room (length (rows_now ws))) NO_SPACE 0

-- the number, and how many rows; "Beside a refusal, .. counts 0"
unfoldable pub plain_answer : List ℕ → ℕ → Planned
plain_answer ws room = record { number = plain_number ws room; count = cond (ltb room (length (rows_now ws))) 0 (length (rows_now ws)) }

-- "Rows past the plan stay as they were"; at 15 all of them
unfoldable pub plain_slice : List ℕ → List Row → List Row
plain_slice ws old = cond (ltb (length old) (length (rows_now ws))) old (records_of (rows_now ws) ++ drop (length (rows_now ws)) old)

-- How one goes from record to record, for a caller who lends no slice and for the writer.
abbrev pub record_at : Situation → ℕ → Row
record_at s t = row_of t (values_at s t)

-- the record of the first row after a second, and of the row after a record's
unfoldable pub record_after : List ℕ → ℕ → Row
record_after ws t = record_at (situation_of ws) (next_row (situation_of ws) t)

unfoldable pub record_no : List ℕ → ℕ → Row
record_no ws zero = record_after ws (clock_of ws)
record_no ws (suc i) = record_after ws (record_no ws i).second

-- the slice once the first k records are written
unfoldable pub written : List ℕ → ℕ → List Row → List Row
written ws zero ys = ys
written ws (suc k) ys = set (written ws k ys) k (record_no ws k)
