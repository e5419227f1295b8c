-- The bench program: the text that a whole script prints, whatever room its calls are lent and in whatever pieces it is read.
-- Assumes nothing: these are definitions.
use Rattle.std.specs.Prelude.{ℕ, zero, suc, ◌+◌, ◌*◌, ◌≤◌, ◌≡◌, Bool, true, false, cond, List, [], ◌∷◌, ◌++◌, ℤ, pos, length, get_or, take, drop, Option, None, Some}
use Rattle.text.specs.Text.{most_digits, decimal}
use Rattle.text.specs.Pieces.{joined}
use Rattle.device_store.specs.Sizes.{slots, helds}
pub use Rattle.bench_script.specs.Device.{bench_settings}
use Rattle.device_calls.specs.Calls.{join_number, join_after, leave_number, leave_after, link_number, link_after, override_number, override_after, clear_number, clear_after, move_number, move_after}
use Rattle.device_calls.specs.Start.{start_after}
use Rattle.wire_requests.specs.Requests.{read_request}
use Rattle.wire_responses.specs.Sizes.{longest_response}
use Rattle.plan.specs.Plan.{row_size, rows_from}
use Rattle.kernel.specs.Frame.{response_frame, frame_number, frame_after}
use Rattle.bench_records.specs.Records.{record_at}
use Rattle.bench_records.specs.declared.fields.Record.{Record}
use Rattle.bench_script.specs.Runs.{call_of, body_of}
use Rattle.bench_script.specs.Answers.{row_pieces}
use Rattle.bench_script.specs.declared.calls.Call.{Call}

-- what a call answers and leaves where there is room for all that it writes: its number, a plan's rows, the device's words
pub record Answered : Type 0 where
  pub number : ℕ
  pub rows : List (ℕ × List ℤ)
  pub words : List ℕ

unfoldable pub numbered : ℕ → List ℕ → Answered
numbered n ws = record { number = n; rows = []; words = ws }

-- the room that a frame's response takes
unfoldable pub response_room : List ℕ → ℕ → ℕ → List ℕ → ℕ
response_room ws z t bytes = length (response_frame ws z t (read_request bytes))

-- a call at t, a frame's bytes beside it. A plan that has room and an ask are never refused, move nothing and pass t over
unfoldable pub answered : List ℕ → ℕ → List ℕ → Call → Answered
answered ws t bytes (Call.Join z k) = numbered (join_number ws z k t) (join_after ws z k t)
answered ws t bytes (Call.Leave z) = numbered (leave_number ws z t) (leave_after ws z t)
answered ws t bytes (Call.Lost z) = numbered (link_number ws z false t) (link_after ws z false t)
answered ws t bytes (Call.Back z) = numbered (link_number ws z true t) (link_after ws z true t)
answered ws t bytes (Call.Frame z) =
    numbered (frame_number ws z t bytes (response_room ws z t bytes)) (frame_after ws z t bytes (response_room ws z t bytes))
answered ws t bytes Call.Plan = record { number = 0; rows = rows_from ws; words = ws }
answered ws t bytes (Call.Override reason d) = numbered (override_number ws reason d t) (override_after ws reason d t)
answered ws t bytes Call.Clear = numbered (clear_number ws t) (clear_after ws t)
answered ws t bytes Call.Move = numbered (move_number ws t) (move_after ws t)
answered ws t bytes Call.Ask = numbered 0 ws

-- a record of a script
unfoldable pub record_answered : List ℕ → List ℕ → Record → Answered
record_answered ws s r = answered ws r.time (body_of s r) (call_of r.kind r.zone (get_or s r.body 0) (get_or s (r.body + 1) 0))

-- "It prints the refusal number or 0 a line; after an accepted plan, its rows"
unfoldable pub plan_pieces : List (ℕ × List ℤ) → List (List ℕ)
plan_pieces [] = []
plan_pieces (r ∷ rs) = row_pieces (pos r.0 ∷ r.1) ++ plan_pieces rs

unfoldable pub answered_pieces : Answered → List (List ℕ)
answered_pieces a = decimal a.number ∷ (10 ∷ []) ∷ plan_pieces a.rows

-- what a script prints, and the device that it leaves
pub record Played : Type 0 where
  pub pieces : List (List ℕ)
  pub words : List ℕ

-- nothing is left to run; "`bad record`", a newline behind it
unfoldable pub ended : List ℕ → Played
ended ws = record { pieces = []; words = ws }

unfoldable pub stopped : List ℕ → Played
stopped ws = record { pieces = (98 ∷ 97 ∷ 100 ∷ 32 ∷ 114 ∷ 101 ∷ 99 ∷ 111 ∷ 114 ∷ 100 ∷ 10 ∷ []) ∷ []; words = ws }

unfoldable pub behind : List (List ℕ) → Played → Played
behind xs p = record { pieces = xs ++ p.pieces; words = p.words }

-- a record in front, and what the records behind it play
unfoldable pub played_from : (List ℕ → List ℕ → Played) → List ℕ → List ℕ → Option Record → Played
played_from others ws s (Some r) =
    behind (answered_pieces (record_answered ws s r)) (others (record_answered ws s r).words (drop (r.body + r.length) s))
played_from others ws s None = stopped ws

-- up to n records from the front of s
unfoldable pub played : ℕ → List ℕ → List ℕ → Played
played zero ws s = ended ws
played (suc n) ws [] = ended ws
played (suc n) ws (b ∷ s) = played_from (played n) ws (b ∷ s) (record_at (b ∷ s) 0)

-- A WHOLE SCRIPT on a device with these words: it has no more records than bytes
unfoldable pub script : List ℕ → List ℕ → Played
script ws s = played (length s) ws s

-- the text that the bench program prints
unfoldable pub bench_text : List ℕ → List ℕ
bench_text s = joined (script (start_after bench_settings) s).pieces

-- ONE PIECE OF A SCRIPT, its answers on a page
-- room for every response, and for the rows of every plan
abbrev pub frame_room : ℕ
frame_room = longest_response

abbrev pub rows_room : ℕ
rows_room = slots * helds * row_size

-- room for every answer: a number's line, and a plan's numbers, each with a byte behind it
abbrev pub cell_room : ℕ
cell_room = most_digits + 1

abbrev pub answer_room : ℕ
answer_room = (1 + rows_room) * cell_room

-- what is left to play: nothing behind a bad record but its line
unfoldable pub remaining : Bool → List ℕ → List ℕ → Played
remaining good ws s = cond good (script ws s) (stopped ws)

-- what stands on page t up to q, then what `rest` prints, is what stands on page s up to p, then what `whole` prints; a position
-- on the page stays on it
pub record Comes (s : List ℕ) (p : ℕ) (whole : Played) (t : List ℕ) (q : ℕ) (rest : Played) : Type 0 where
  pub text : take q t ++ joined rest.pieces ≡ take p s ++ joined whole.pieces
  pub within : p ≤ length s → q ≤ length t
  pub device : rest.words ≡ whole.words
