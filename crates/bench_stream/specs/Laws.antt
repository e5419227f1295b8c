-- What is proved of the driver. The proof of WholeRuns is whole-runs, in proofs/, and so for the others.
-- Assumes nothing: these are statements.
use Rattle.std.specs.Prelude.{ℕ, ◌+◌, ◌≤◌, ◌<◌, ◌≡◌, Bool, true, false, cond, List, [], ◌++◌, eqb, length, take, drop, Some}
use Rattle.text.specs.Pieces.{joined}
use Rattle.bench_records.specs.Kinds.{longest}
use Rattle.bench_records.specs.Records.{record_at}
use Rattle.bench_records.specs.declared.fields.Record.{Record}
use Rattle.bench_script.specs.Bench.{script, stopped, answer_room}
use Rattle.bench_stream.specs.declared.input.Input.{Input}
use Rattle.bench_stream.specs.declared.pieces.Place.{Place}
use Rattle.bench_stream.specs.Buffer.{bytes_in, is_short, Filled}
use Rattle.bench_stream.specs.Ready.{is_ready, PieceRun, goes_on}

-- a whole record of a piece is run where its answer has room, whether or not more comes
abbrev pub WholeRuns : Type 0
WholeRuns =
    (s : List ℕ) (last : Bool) (page : ℕ) (p : Place) (r : Record) → record_at s p.from ≡ Some r → p.at + answer_room ≤ page
    → is_ready s last page p ≡ true

-- in the last piece every record is, whole or not: a cut one is bad
abbrev pub LastRuns : Type 0
LastRuns =
    (s : List ℕ) (page : ℕ) (p : Place) → p.from < length s → p.at + answer_room ≤ page → is_ready s true page p ≡ true

-- a piece that was filled and in which nothing was run is empty, and there is nothing more to read
abbrev pub GetsOn : Type 0
GetsOn =
    (ws s : List ℕ) (left : ℕ) (page : List ℕ) (p : Place) (ws' page' : List ℕ) → is_short (length s) left ≡ false → answer_room ≤ length page
    → PieceRun ws s (eqb left 0) page p ws' page' → p.from ≡ 0 → (length s ≡ 0) × (left ≡ 0)

-- what a fill makes is a piece of the script: what was not yet run, then what was read; where more may be read, as long as the
-- longest record
pub record Fetched (kept piece : List ℕ) (left : ℕ) : Type 0 where
  pub bytes : List ℕ
  pub is : piece ≡ kept ++ bytes
  pub enough : eqb left 0 ≡ false → longest ≤ length piece

abbrev pub Fetches : Type 0
Fetches =
    (buf : List ℕ) (x : Input) (buf' : List ℕ) (y : Input) → length buf' ≡ length buf → Filled buf x buf' y
    → Fetched (bytes_in buf x.from x.to) (bytes_in buf' y.from y.to) y.left

-- and what is not yet run of it are its bytes from there on
abbrev pub Unrun : Type 0
Unrun = (buf : List ℕ) (from to : ℕ) → from ≤ to → bytes_in buf from to ≡ drop from (bytes_in buf 0 to)

-- THE DRIVER, with what it reads and what it writes as lists. A turn: the piece is what was read and not yet run, `kept`, and the
-- next bytes of what comes, `unread`: in the last piece all of them, in another one enough of them. It runs the piece and writes
-- its page
pub record Turn (ws kept unread : List ℕ) (p : Place) (ws' written left rest : List ℕ) : Type 0 where
  pub bytes : List ℕ
  pub last : Bool
  pub page : List ℕ
  pub page' : List ℕ
  pub read : unread ≡ bytes ++ rest
  pub all : last ≡ true → rest ≡ []
  pub enough : last ≡ false → longest ≤ length (kept ++ bytes)
  pub room : answer_room ≤ length page
  pub ran : PieceRun ws (kept ++ bytes) last page p ws' page'
  pub writes : written ≡ take p.at page'
  pub leaves : left ≡ drop p.from (kept ++ bytes)

-- turn after turn, up to a piece in which nothing was run or the line of a bad record
pub data Driven : List ℕ → List ℕ → List ℕ → List ℕ → Type 0 where
  goes : {ws kept unread : List ℕ} {p : Place} {ws' written left rest text : List ℕ} → Turn ws kept unread p ws' written left rest → goes_on p ≡ true
      → Driven ws' left rest text → Driven ws kept unread (written ++ text)
  ends : {ws kept unread : List ℕ} {p : Place} {ws' written left rest : List ℕ} → Turn ws kept unread p ws' written left rest → goes_on p ≡ false
      → Driven ws kept unread (written ++ cond p.good [] (joined (stopped ws').pieces))

-- in whatever pieces a script is read, what is written is what the whole script prints
abbrev pub EveryReading : Type 0
EveryReading = (ws s text : List ℕ) → Driven ws [] s text → text ≡ joined (script ws s).pieces
