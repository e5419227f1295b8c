-- Which records of a piece are run, and where a run stops. Assumes nothing: these are definitions.
use Rattle.std.specs.Prelude.{ℕ, ◌+◌, ◌≤◌, ◌≡◌, Bool, true, false, ◌&&◌, ◌||◌, List, [], ◌++◌, ltb, leb, length, drop, Option, is_some}
use Rattle.bench_records.specs.Kinds.{longest}
use Rattle.bench_records.specs.Records.{record_at}
use Rattle.bench_script.specs.Bench.{script, answer_room, remaining, Comes}
use Rattle.bench_records.specs.declared.fields.Record.{Record}
use Rattle.bench_stream.specs.declared.pieces.Place.{Place}

-- a whole record was read
unfoldable pub is_record : Option Record → Bool
is_record x = is_some x

-- the record at p can be told, whatever comes behind the piece: it is whole, or no record is longer than what is left
unfoldable pub is_told : List ℕ → ℕ → Bool
is_told s p = leb (p + longest) (length s) || is_record (record_at s p)

-- the record at a place is run: there is one, every answer has room on the page, and it can be told or nothing comes behind
unfoldable pub is_ready : List ℕ → Bool → ℕ → Place → Bool
is_ready s last page p = ltb p.from (length s) && (leb (p.at + answer_room) page && (last || is_told s p.from))

-- what a run makes of a piece: whatever comes behind it, and nothing does behind the last, what stands on the page and then what
-- is left to print is what the whole script prints; and it stops only where no record is ready
pub record PieceRun (ws s : List ℕ) (last : Bool) (page : List ℕ) (p : Place) (ws' page' : List ℕ) : Type 0 where
  pub within : p.from ≤ length s
  pub none : p.from ≡ 0 → p.at ≡ 0
  pub comes : (more : List ℕ) → (last ≡ true → more ≡ [])
      → Comes page 0 (script ws (s ++ more)) page' p.at (remaining p.good ws' (drop p.from s ++ more))
  pub stops : is_ready s last (length page) p ≡ false

-- the driver goes on behind a piece of which something was run, and not behind a bad record
unfoldable pub goes_on : Place → Bool
goes_on p = ltb 0 p.from && p.good
