-- THE TENDER'S THREE DEMANDS, over the definitions that the contracts of the calls cite. Proved in proofs/Demand1, Demand2 and Demand3.
use Rattle.std.specs.Prelude.{ℕ, ◌≤◌, ◌<◌, ◌≡◌, ◌≢◌, Bool, true, false, List, ◌++◌, ℤ, pos, length, drop, Some}
use Rattle.std.proofs.Math.Option.{some}
use Rattle.wire_bytes.specs.Bytes.{put_whole}
use Rattle.wire_cbor.specs.Encodings.{PayloadExact, OneItem}
use Rattle.wire_messages.specs.declared.Command.{Command}
use Rattle.wire_messages.specs.declared.Request.{Request}
use Rattle.wire_messages.specs.declared.Response.{Response}
use Rattle.wire_requests.specs.Requests.{Envelope, read_request, reading_number}
use Rattle.wire_requests.specs.WrittenRequests.{request_item, request_number}
use Rattle.wire_responses.specs.Responses.{read_response, answer_number}
use Rattle.wire_responses.specs.WrittenResponses.{response_item, response_number, status_alone}
use Rattle.wire_laws.specs.RoundTrips.{FramedExact, FrameStands, RequestReadsBack, ResponseReadsBack, RequestWritable, ResponseWritable, RequestWritesAgain, ResponseWritesAgain}
use Rattle.wire_laws.specs.PassedOver.{RequestUnknownPassed, ResponseUnknownPassed, ZeroDurationPassed}
use Rattle.wire_output.specs.Writing.{item_frame, writing_number, written_of, left_by}
use Rattle.wire_requests.specs.declared.reading.Reading.{Reading}
use Rattle.device_store.specs.declared.Settings.{Settings}
use Rattle.device_store.specs.declared.Zone.{Zone}
use Rattle.device_store.specs.Sizes.{helds}
use Rattle.device_store.specs.Zones.{id_of, rank_of, any_up}
use Rattle.device_holds.specs.Holds.{Situation, situation_of, value_at, shown, values_at}
use Rattle.device_holds.specs.Table.{Table}
use Rattle.kernel_laws.specs.Laws.{ResponsesRead, UnservedReads}
use Rattle.kernel_laws.specs.Expiry.{Expiry}
use Rattle.device_calls.specs.Calls.{ask_answer}
use Rattle.plan.specs.Rows.{IsPlan}
use Rattle.plan.specs.Plan.{numbers_of, front, rows_from, plan_tests, plan_number, plan_answer, plan_slice}
use Rattle.kernel.specs.Frame.{frame_number, frame_answer, frame_out}
use Rattle.report.specs.declared.Inputs.{Inputs}
use Rattle.report.specs.Rules.{breaches}
use Rattle.report.specs.Report.{report_number, report_of, flat, pairs_after}
use Rattle.report.specs.Statements.{Exact, Ordered}
use Rattle.receiver.specs.declared.record.Record.{Record}
use Rattle.receiver.specs.Receive.{received}
use Rattle.receiver.specs.Words.{record_in}
use Rattle.ticks.specs.declared.front.Front.{Front}
use Rattle.ticks.specs.Words.{reading_in, words_left as front_left}
use Rattle.plan_plain.specs.declared.Row.{Row}
use Rattle.rescue_walk.specs.Rescue.{number as rescue_number}
use Rattle.demands.specs.Run.{Call, number, run}
use Rattle.demands.specs.History.{newest, says_rank, clock_by, joined_by, record_by}
use Rattle.demands.specs.Accepted.{number_by, plan_number_by, response_frame_by, started_with, InPairs, history, told}
use Rattle.demands.specs.Tests.{envelope_of, read_tests, answer_tests, write_request_tests, write_response_tests, report_tests}
use Rattle.demands.specs.Answers.{ByTests, Answers, Starts, Written, Responds, Determined}
use Rattle.demands.specs.Later.{Receives, ReceivesWords, ReadsMeasurement, WritesMeasurement, ReadsTick, PlansPlainly, Rescues}
use Rattle.demands.specs.ReleasedSlot.{ReleasedSlot}
use Rattle.demands.specs.Moving.{Moving}
use Rattle.demands.specs.Blame.{Blames}

-- DEMAND 1
-- "Every call ends with an answer, for every frame, time, zone number and state": each contract gives its call's answer for all inputs, and asks for nothing.
pub record Demand1 : Type 0 where
  -- "A refusal carries the number that the table in document 01 gives for that case, and is not given otherwise. It changes neither state nor clock"
  pub calls : (device : List ℕ) (c : Call) → Answers device c
  -- a plan, which can change no device, is refused with 15 alone; an ask has no refusal: its contract gives values, and no number
  pub plans : (device : List ℕ) (room : ℕ) → ByTests (plan_number device room) (plan_tests (rows_from device) room)
  -- the calls that are lent no device: requests and responses read and written, the report
  pub read_requests : (bytes : List ℕ) → ByTests (reading_number (read_request bytes)) (read_tests bytes)
  pub read_responses : (command : ℕ) (bytes : List ℕ) → ByTests (answer_number (read_response command bytes)) (answer_tests command bytes)
  pub write_requests : (r : Request) (room : ℕ) → ByTests (writing_number (request_number r) (item_frame (request_item r)) room) (write_request_tests r room)
  pub write_responses : (command : ℕ) (r : Response) (room : ℕ)
      → ByTests (writing_number (response_number command r) (item_frame (response_item r)) room) (write_response_tests command r room)
  pub reports : (i : Inputs) (attributes : List ℕ) (room : ℕ) → ByTests (report_number i attributes room) (report_tests i attributes room)
  -- ".. and writes nothing except the response frame where the table allows one"
  pub frame : (device : List ℕ) (z t : ℕ) (bytes out : List ℕ)
      → Responds (frame_number device z t bytes (length out)) out (frame_out device z t bytes out) (frame_answer device z t bytes (length out)).length
  -- "Beside a refusal, .. counts 0"
  pub plan : (device : List ℕ) (out : List ℤ) → plan_number device (length out) ≢ 0
      → (plan_slice device out ≡ out) × ((plan_answer device (length out)).count ≡ 0)
  pub write : (n : ℕ) (frame out : List ℕ) → writing_number n frame (length out) ≢ 0
      → (left_by n frame out ≡ out) × ((written_of n frame (length out)).length ≡ 0)
  pub report : (i : Inputs) (attributes out : List ℕ) → report_number i attributes (length out) ≢ 0
      → (pairs_after i attributes out ≡ out) × ((report_of i attributes (length out)).count ≡ 0)
  -- the number in an answer is the one above
  pub frame_answers : (device : List ℕ) (z t : ℕ) (bytes : List ℕ) (room : ℕ) → (frame_answer device z t bytes room).number ≡ frame_number device z t bytes room
  pub plan_answers : (device : List ℕ) (room : ℕ) → (plan_answer device room).number ≡ plan_number device room
  pub write_answers : (n : ℕ) (frame : List ℕ) (room : ℕ) → (written_of n frame room).number ≡ writing_number n frame room
  pub report_answers : (i : Inputs) (attributes : List ℕ) (room : ℕ) → (report_of i attributes room).number ≡ report_number i attributes room
  -- "A fresh device's clock is 0"; "A refused start hands back a fresh device" with settings of its own
  pub start : (s : Settings) → InPairs s → Starts s
  -- the calls of document 02, likewise: their numbers by its tests, and what a refusal leaves of all that was lent
  pub receive : (r : Record) (room scrap : List ℕ) → Receives r room scrap (received r room scrap)
  pub receive_words : (ws cs room scrap : List ℕ) → ReceivesWords ws cs room scrap (received (record_in ws) room scrap).answer.number
  pub read_measurement : (payload words : List ℕ) → ReadsMeasurement payload words
  pub write_measurement : (words out : List ℕ) → WritesMeasurement words out
  pub read_tick : (f : Front) (k : ℕ) → ReadsTick f k
  pub read_tick_words : (ws : List ℕ) (k : ℕ) → (reading_in ws k).number ≢ 0 → front_left ws k ≡ ws
  pub plain_plan : (device : List ℕ) (records : List Row) → PlansPlainly device records
  pub rescue : (script out report : List ℕ) → Rescues script out report (rescue_number script (length out) (length report))

-- DEMAND 2
pub record Demand2 : Type 0 where
  -- "Frames are read and written as RFC 8949 and document 01 say": a payload is read exactly where it is the one encoding of an item of the strict subset
  pub strict : PayloadExact
  pub encoded : OneItem
  -- a frame is a payload of 1 to 2,048 bytes behind its length
  pub framed : FramedExact
  -- "What is written reads back equal"
  pub request_back : RequestReadsBack
  pub response_back : ResponseReadsBack
  -- so do the kernel's own responses, in every state: to a request, and with status 4 to one that is not served, for every command that its sender may have meant
  pub kernel_back : ResponsesRead
  pub unserved_back : UnservedReads
  -- what is read can be written, and "a frame read and written again is the same bytes if it has no unknown key and no written zero duration";
  -- L8: a setpoint's zero is written, so that only limits and current limits need the latter
  pub request_writable : RequestWritable
  pub response_writable : ResponseWritable
  pub request_again : RequestWritesAgain
  pub response_again : ResponseWritesAgain
  -- unknown keys "are passed over, still checked": a frame with them, in its envelope, parameters or result, is read as the one without
  pub request_unknown : RequestUnknownPassed
  pub response_unknown : ResponseUnknownPassed
  -- "duration 0 or omitted": with a written zero SetLimit and SetCurrentLimits are read as without it
  pub zero_duration : ZeroDurationPassed
  -- an accepted writer's buffer has the frame at its front and is else as it was; its answer is the frame's length
  pub stands : FrameStands
  pub counted : (n : ℕ) (frame out : List ℕ) → writing_number n frame (length out) ≡ 0 → (written_of n frame (length out)).length ≡ length frame
  -- the response in a frame call's buffer, in every state: the one that the state, the zone, the second and the request determine
  pub response : (device : List ℕ) (z t : ℕ) (bytes out : List ℕ) (q : Request) → read_request bytes ≡ Reading.Is q
      → (r : Response) × Determined device z t q r × Written out (frame_out device z t bytes out) (frame_answer device z t bytes (length out)).length r
  pub unserved : (device : List ℕ) (z t : ℕ) (bytes out : List ℕ) (i : ℕ) → read_request bytes ≡ Reading.Unserved i
      → Written out (frame_out device z t bytes out) (frame_answer device z t bytes (length out)).length (status_alone i 4)
  -- it answers the message whose id stands in the frame
  pub id_read : (bytes : List ℕ) (e : Envelope) (q : Request) → envelope_of bytes ≡ some e → read_request bytes ≡ Reading.Is q → q.id ≡ e.id
  pub id_unserved : (bytes : List ℕ) (e : Envelope) (i : ℕ) → envelope_of bytes ≡ some e → read_request bytes ≡ Reading.Unserved i → i ≡ e.id
  -- "With a zone's link up, the limit in each direction is the smallest unexpired one, absent exactly when there is none;
  -- the setpoint is that of the highest-ranked zone that has one; other cases follow document 01"
  pub table : (s : Situation) (t : ℕ) → Table s t
  -- "A value set at second n with duration d > 0 holds while t < n + d; duration 0 or omitted holds until replaced or cleared"; L8: "An omitted
  -- duration in SetSetpoint shall mean 3,600 s"
  pub expiry : (s : Settings) (c : Command) (x : Zone) → Expiry s c x
  -- "The conformance report lists every breach of document 01's six groups once"
  pub exact : Exact
  pub ordered : Ordered
  -- an accepted report's buffer has these pairs at its front and is else as it was; its answer is their number
  pub reported : (i : Inputs) (attributes out : List ℕ) → report_number i attributes (length out) ≡ 0
      → (pairs_after i attributes out ≡ flat (breaches i attributes) ++ drop (length (flat (breaches i attributes))) out) × ((report_of i attributes (length out)).count ≡ length (breaches i attributes))

-- DEMAND 3
-- a slice and a count that list a plan: every later second at which the values f change, each once, in order, with the values from then on;
-- `up` says whether a link is up
pub record Lists (f : ℕ → List ℤ) (up : Bool) (now : ℕ) (before after : List ℤ) (count : ℕ) : Type 0 where
  pub rows : List (ℕ × List ℤ)
  pub whole : IsPlan f now rows
  pub only : (others : List (ℕ × List ℤ)) → IsPlan f now others → others ≡ rows
  pub slice : after ≡ front (numbers_of rows) before
  pub counted : count ≡ length rows
  -- "the bound on rows is 80"
  pub few : length rows ≤ 80
  -- "the 17 of L3 becomes 65": with no link up, as in FAILSAFE
  pub few_down : up ≡ false → length rows ≤ 65

-- the device that calls lead to, beside what the history of those calls tells
pub record FromHistory (s : Settings) (calls : List Call) : Type 0 where
  -- "a plan that fits its buffer lists every later second the clock can show at which the control state, a limit or a setpoint would change"
  pub plan : (out : List ℤ) → plan_number (run s calls) (length out) ≡ 0
      → Lists (values_at (told s calls)) (any_up (told s calls).zones) (clock_by (history s calls)) out (plan_slice (run s calls) out) (plan_answer (run s calls) (length out)).count
  -- ".. if only the clock moved": moved by its own call, it shows what the rows say
  pub moving : Moving (run s calls)
  -- "Those values come from the history alone": the control state and all ten quantities, phase by phase too, at every second
  pub values : (t : ℕ) → values_at (situation_of (run s calls)) t ≡ values_at (told s calls) t
  -- an ask shows them at the time of the last accepted call
  pub ask : ask_answer (run s calls) ≡ values_at (told s calls) (clock_by (history s calls))
  -- a value that is there is shown as it is: none is as large as 2^63, so -1 is absent alone
  pub whole : (t q v : ℕ) → q < helds → value_at (told s calls) t q ≡ Some v → shown (value_at (told s calls) t q) ≡ pos v
  -- the number of each call and the response to each frame come from the history too
  pub numbers : (c : Call) → number (run s calls) c ≡ number_by (started_with s) (history s calls) c
  pub plan_numbers : (room : ℕ) → plan_number (run s calls) room ≡ plan_number_by (started_with s) (history s calls) room
  pub responses : (z t : ℕ) (bytes out : List ℕ)
      → frame_out (run s calls) z t bytes out ≡ put_whole out 0 (response_frame_by (started_with s) (history s calls) z t (read_request bytes))
  -- the record of a joined zone has its id and the rank that it joined with
  pub precedences : (z : ℕ) → joined_by (history s calls) z ≡ true
      → (id_of (record_by (started_with s) (history s calls) z) ≡ z) × (rank_of (record_by (started_with s) (history s calls) z) ≡ newest (says_rank z) 0 (history s calls))
  -- "Zones: 8 joined at once"
  pub eight : length (told s calls).zones ≤ 8
  -- "no released slot may speak for its new owner"
  pub slots : ReleasedSlot s calls
  -- who holds each value comes from the history too: nor is a released slot blamed for its new owner, nor its new owner for it
  pub holders : (t q : ℕ) → Blames s calls t q

-- "After any sequence of calls from a fresh device", of settings that are refused too
abbrev pub Demand3 : Type 0
Demand3 = (s : Settings) → InPairs s → (calls : List Call) → FromHistory s calls
