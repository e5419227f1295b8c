-- The walk piece by piece, as the code goes. Assumes nothing: these are definitions.
use Rattle.std.specs.Prelude.{ℕ, ◌+◌, ◌*◌, ◌≤◌, ◌<◌, cond, List, [], ◌∷◌, ◌++◌, eqb, length, take, drop}
use Rattle.wire_bytes.specs.Bytes.{put}
use Rattle.rescue_walk.specs.declared.steps.Cursor.{Cursor}
use Rattle.rescue_walk.specs.Walk.{record_len, run_len, walk, kept, runs_from, run_count, rescued}

-- behind the next piece, a run or a record
unfoldable pub next_of : List ℕ → Cursor → Cursor
next_of s c =
    cond (eqb (record_len (drop c.at s)) 0)
    (record { at = c.at + run_len (drop c.at s); kept = c.kept; runs = c.runs + 1 })
    (record { at = c.at + record_len (drop c.at s); kept = c.kept + record_len (drop c.at s); runs = c.runs })

-- a cursor within the script: no more bytes are kept than it passed, and no more runs
pub record Reached (s : List ℕ) (c : Cursor) : Type 0 where
  pub within : c.at ≤ length s
  pub few_kept : c.kept ≤ c.at
  pub few_runs : c.runs ≤ c.at

-- what the next piece makes of the output and of the report
unfoldable pub out_next : List ℕ → List ℕ → Cursor → List ℕ
out_next s d c = cond (eqb (record_len (drop c.at s)) 0) d (put d c.kept (take (record_len (drop c.at s)) (drop c.at s)))

unfoldable pub report_next : List ℕ → List ℕ → Cursor → List ℕ
report_next s d c = cond (eqb (record_len (drop c.at s)) 0) (put d (2 * c.runs) (c.at ∷ (run_len (drop c.at s) ∷ []))) d

-- there is room for what is left
pub record Room (s out report : List ℕ) (c : Cursor) : Type 0 where
  pub reached : Reached s c
  pub more : c.at < length s
  pub out_room : c.kept + length (kept (walk (drop c.at s))) ≤ length out
  pub report-room : 2 * c.runs + length (runs_from c.at (walk (drop c.at s))) ≤ length report

-- behind the last piece
unfoldable pub counted : List ℕ → Cursor
counted s = record { at = length s; kept = length (rescued s); runs = run_count (walk s) }

-- written at the front; what lies behind stays
unfoldable pub front : List ℕ → List ℕ → List ℕ
front d xs = xs ++ drop (length xs) d
