-- The calls of document 02: their tests in its order, what a refusal leaves of all that was lent, and "Beside a refusal, values are -1 and counts 0".
use Rattle.std.specs.Prelude.{ℕ, ◌+◌, ◌/◌, ◌^◌, ◌≡◌, ◌≢◌, Bool, true, false, not, ◌&&◌, ◌||◌, List, [], ◌∷◌, ◌++◌, ltb, leb, eqb, negsuc, length, take}
use Rattle.std.proofs.lemmas.List.Edits.{sets}
use Rattle.wire_bytes.specs.Bytes.{number_at}
use Rattle.wire_prefix.specs.Prefix.{prefix_bytes, most_payload, most_frame}
use Rattle.wire_cbor.specs.Item.{payload_of, encode}
use Rattle.wire_output.specs.Writing.{written_of, left_by}
use Rattle.receiver.specs.declared.record.Record.{Record}
use Rattle.receiver.specs.Receive.{shut, is_open, Done}
use Rattle.receiver.specs.Words.{record_in, record_words, words_left, counts_left}
use Rattle.measurement_table.specs.Table.{rows}
use Rattle.measurement_table.specs.Cells.{rows_fit}
use Rattle.measurement_table.specs.Words.{held, marks_fit, range_number}
use Rattle.measurement_table.specs.Payload.{length_fits, cells_of, read_number, read_after, item_of}
use Rattle.ticks.specs.declared.front.Front.{Front}
use Rattle.ticks.specs.Ticks.{END, step_of, reading_of}
use Rattle.plan.specs.Plan.{rows_from}
use Rattle.plan_plain.specs.declared.Row.{Row}
use Rattle.plan_plain.specs.Records.{plain_answer, plain_slice}
use Rattle.rescue_walk.specs.Walk.{rescued, runs}
use Rattle.rescue_walk.specs.Rescue.{longest_script, written, answer}
use Rattle.demands.specs.Tests.{missing}
use Rattle.demands.specs.Answers.{ByTests}
use Rattle.refusals.specs.Refusals.{BAD_CBOR, BAD_LENGTH, BAD_MESSAGE, BAD_TIME, NO_SPACE}

-- L1: A SCRAP TAKEN
-- "a room under 2,052"
abbrev pub small_room : List ℕ → Bool
small_room room = ltb (length room) most_frame

-- "a length of 0 or above 2,048"
abbrev pub bad_length : ℕ → Bool
bad_length n = eqb n 0 || ltb most_payload n

-- "the fourth byte of a bad length": the prefix was not whole, and is with this scrap behind the bytes in the room
unfoldable pub fourth_bad : Record → List ℕ → List ℕ → Bool
fourth_bad r room scrap =
    ltb r.have prefix_bytes && (leb prefix_bytes (r.have + length scrap) && bad_length (number_at (take r.have room ++ scrap) 0 prefix_bytes))

-- 15 "tested first"; 1 "at counts no call leaves" and once closed; 1 "at the fourth byte of a bad length"
unfoldable pub receive_tests : Record → List ℕ → List ℕ → List (Bool × ℕ)
receive_tests r room scrap = (small_room room, NO_SPACE) ∷ (not (is_open r), BAD_LENGTH) ∷ (fourth_bad r room scrap, BAD_LENGTH) ∷ []

-- the last of these tests is the one that refuses
unfoldable pub closes : Record → List ℕ → List ℕ → Bool
closes r room scrap = not (small_room room) && (is_open r && fourth_bad r room scrap)

-- a call that was lent a record and a room, beside what it does
pub record Receives (r : Record) (room scrap : List ℕ) (d : Done) : Type 0 where
  pub numbered : ByTests d.answer.number (receive_tests r room scrap)
  pub counts : d.answer.number ≢ 0 → (d.answer.taken ≡ 0) × (d.answer.length ≡ 0)
  -- "which closes the record and leaves the room"
  pub closing : closes r room scrap ≡ true → (d.after ≡ shut) × (d.room ≡ room)
  -- "the others change nothing"
  pub others : d.answer.number ≢ 0 → closes r room scrap ≡ false → (d.after ≡ r) × (d.room ≡ room)

-- the same call over the record's three words, with two more for its counts: what these hold at a refusal
pub record ReceivesWords (ws cs room scrap : List ℕ) (n : ℕ) : Type 0 where
  pub counts : n ≢ 0 → counts_left cs ws room scrap ≡ sets cs 0 (0 ∷ 0 ∷ [])
  pub closing : closes (record_in ws) room scrap ≡ true → words_left ws room scrap ≡ sets ws 0 (record_words shut)
  pub others : n ≢ 0 → closes (record_in ws) room scrap ≡ false → words_left ws room scrap ≡ ws

-- L9: MEASUREMENT
-- "1 for a payload length outside 1 to 2,048, then 2, 3"
unfoldable pub payload_tests : List ℕ → List (Bool × ℕ)
payload_tests payload = (not (length_fits payload), BAD_LENGTH) ∷ (missing (payload_of payload), BAD_CBOR) ∷ (missing (cells_of payload), BAD_MESSAGE) ∷ []

-- the payload that words say
abbrev pub measured : List ℕ → List ℕ
measured words = encode (item_of (held words))

-- ".. 3 and 15": a mark that means nothing or a number out of its range, then a payload longer than the buffer
unfoldable pub measured_tests : List ℕ → ℕ → List (Bool × ℕ)
measured_tests words room =
    (not (marks_fit words 36 0 && rows_fit rows (held words)), BAD_MESSAGE) ∷ (not (leb (length (measured words)) room), NO_SPACE) ∷ []

pub record ReadsMeasurement (payload words : List ℕ) : Type 0 where
  pub numbered : ByTests (read_number payload) (payload_tests payload)
  pub unchanged : read_number payload ≢ 0 → read_after payload words ≡ words

pub record WritesMeasurement (words out : List ℕ) : Type 0 where
  pub numbered : ByTests (written_of (range_number words) (measured words) (length out)).number (measured_tests words (length out))
  pub unchanged : (written_of (range_number words) (measured words) (length out)).number ≢ 0
      → (left_by (range_number words) (measured words) out ≡ out) × ((written_of (range_number words) (measured words) (length out)).length ≡ 0)

-- L10: A READING
-- "5 for a step back", which a step of 2^31 or more is, "or where the seconds would pass the end"; the first reading has no step
unfoldable pub tick_tests : Front → ℕ → List (Bool × ℕ)
tick_tests f k =
    (f.begun && leb (2 ^ 31) (step_of f.last k), BAD_TIME) ∷ (f.begun && ltb END (f.seconds + (f.remainder + step_of f.last k) / 1000), BAD_TIME) ∷ []

-- "A refused reading changes nothing"
pub record ReadsTick (f : Front) (k : ℕ) : Type 0 where
  pub numbered : ByTests (reading_of f k).number (tick_tests f k)
  pub unchanged : (reading_of f k).number ≢ 0 → ((reading_of f k).front ≡ f) × ((reading_of f k).seconds ≡ negsuc 0)

-- L6: THE PLAIN PLAN
-- "15 exactly when there are more rows than records": the rows of the plan
unfoldable pub plain_tests : List ℕ → ℕ → List (Bool × ℕ)
plain_tests device room = (ltb room (length (rows_from device)), NO_SPACE) ∷ []

pub record PlansPlainly (device : List ℕ) (records : List Row) : Type 0 where
  pub numbered : ByTests (plain_answer device (length records)).number (plain_tests device (length records))
  pub unchanged : (plain_answer device (length records)).number ≢ 0
      → (plain_slice device records ≡ records) × ((plain_answer device (length records)).count ≡ 0)

-- L12: RESCUE
-- "an input above the size is 1, tested first"; "15 for output or report without room"
unfoldable pub rescue_tests : List ℕ → ℕ → ℕ → List (Bool × ℕ)
rescue_tests script out report = (ltb longest_script (length script), BAD_LENGTH) ∷ (ltb out (length (rescued script)) || ltb report (length (runs script)), NO_SPACE) ∷ []

-- "nothing written": n is the call's number
pub record Rescues (script out report : List ℕ) (n : ℕ) : Type 0 where
  pub numbered : ByTests (answer n script).number (rescue_tests script (length out) (length report))
  pub unchanged : (answer n script).number ≢ 0 → (written n out (rescued script) ≡ out) × (written n report (runs script) ≡ report)
  pub counts : (answer n script).number ≢ 0 → ((answer n script).length ≡ 0) × ((answer n script).runs ≡ 0)
