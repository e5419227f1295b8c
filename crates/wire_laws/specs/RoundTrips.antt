-- What is proved of reading and writing, each stated once. The proof of RequestReadsBack is request_reads_back, in proofs/, and so for the others.
-- Assumes nothing: these are statements.
use Rattle.std.specs.Prelude.{ℕ, ◌^◌, ◌≤◌, ◌<◌, ◌≡◌, Bool, true, false, cond, ◌&&◌, ◌||◌, ◌↔◌, List, length, take, drop, leb, eqb, ℤ, pos, negsuc, None, Some}
use Rattle.std.proofs.Math.Option.{some, none}
use Rattle.wire_bytes.specs.Bytes.{Bytes}
use Rattle.wire_cbor.specs.Item.{Item, Pairs, payload_of}
use Rattle.wire_cbor.specs.Find.{value_of}
use Rattle.wire_messages.specs.declared.Field.{Field}
use Rattle.wire_messages.specs.Options.{Target}
use Rattle.wire_messages.specs.declared.Phases.{Phases}
use Rattle.wire_messages.specs.declared.Command.{Command}
use Rattle.wire_messages.specs.declared.Request.{Request}
use Rattle.wire_messages.specs.declared.Response.{Response}
use Rattle.wire_prefix.specs.Prefix.{frame_of, framed, payload_in, most_payload}
use Rattle.wire_requests.specs.Requests.{read_request}
use Rattle.wire_requests.specs.WrittenRequests.{request_item, request_number}
use Rattle.wire_responses.specs.Responses.{read_response}
use Rattle.wire_responses.specs.WrittenResponses.{response_item, response_number}
use Rattle.wire_output.specs.Writing.{item_frame, writing_number, left_by}
use Rattle.wire_requests.specs.declared.reading.Reading.{Reading}
use Rattle.wire_responses.specs.declared.reading.Answer.{Answer}

-- THE PREFIX
-- 1 is refused exactly where the bytes are no payload of 1 to 2,048 bytes behind its length
abbrev pub FramedExact : Type 0
FramedExact =
    (frame : List ℕ) → Bytes frame → (framed frame ≡ true) ↔ ((frame_of (payload_in frame) ≡ frame) × (1 ≤ length (payload_in frame)) × (length (payload_in frame) ≤ most_payload))

-- WRITING
-- where nothing is refused the frame stands at the front, and the bytes past it are as they were
abbrev pub FrameStands : Type 0
FrameStands =
    (n : ℕ) (frame out : List ℕ) → writing_number n frame (length out) ≡ 0
    → (take (length frame) (left_by n frame out) ≡ frame) × (drop (length frame) (left_by n frame out) ≡ drop (length frame) out)

-- WHAT IS WRITTEN READS BACK EQUAL
-- a value of 64 signed bits, as every i64 is
abbrev pub Signed64 : ℤ → Type 0
Signed64 (pos n) = n < 2 ^ 63
Signed64 (negsuc n) = n < 2 ^ 63

abbrev pub Field64 : Field → Type 0
Field64 Field.Absent = Unit {0}
Field64 Field.Null = Unit {0}
Field64 (Field.Value z) = Signed64 z

abbrev pub Target64 : Target → Type 0
Target64 None = Unit {0}
Target64 (Some z) = Signed64 z

abbrev pub Phases64 : Phases → Type 0
Phases64 p = Field64 p.a × Field64 p.b × Field64 p.c

abbrev pub Command64 : Command → Type 0
Command64 (Command.SetLimit l) = Field64 l.consumption × Field64 l.production
Command64 (Command.ClearLimit a) = Unit {0}
Command64 (Command.SetSetpoint l) = Target64 l.consumption × Target64 l.production
Command64 (Command.ClearSetpoint a) = Unit {0}
Command64 (Command.SetCurrentLimits l) = Phases64 l.phases
Command64 (Command.ClearCurrentLimits a) = Unit {0}
Command64 (Command.Unserved n) = Unit {0}

abbrev pub RequestReadsBack : Type 0
RequestReadsBack = (r : Request) → Command64 r.command → request_number r ≡ 0 → read_request (item_frame (request_item r)) ≡ Reading.Is r

abbrev pub ResponseReadsBack : Type 0
ResponseReadsBack = (c : ℕ) (r : Response) → response_number c r ≡ 0 → read_response c (item_frame (response_item r)) ≡ Answer.Is r

-- only one frame is written for a message, and one message for a frame
abbrev pub OneRequest : Type 0
OneRequest =
    (r q : Request) → Command64 r.command → Command64 q.command → request_number r ≡ 0 → request_number q ≡ 0 → item_frame (request_item r) ≡ item_frame (request_item q) → r ≡ q

abbrev pub OneResponse : Type 0
OneResponse =
    (c : ℕ) (r q : Response) → response_number c r ≡ 0 → response_number c q ≡ 0 → item_frame (response_item r) ≡ item_frame (response_item q) → r ≡ q

-- A FRAME READ AND WRITTEN AGAIN IS THE SAME BYTES
-- what is read can be written
abbrev pub RequestWritable : Type 0
RequestWritable = (frame : List ℕ) (r : Request) → read_request frame ≡ Reading.Is r → Command64 r.command × (request_number r ≡ 0)

abbrev pub ResponseWritable : Type 0
ResponseWritable = (c : ℕ) (frame : List ℕ) (r : Response) → read_response c frame ≡ Answer.Is r → response_number c r ≡ 0

-- no key but 1 to n
abbrev pub KeysTo : ℕ → Pairs → Type 0
KeysTo n ps = (k : ℕ) → (leb 1 k && leb k n) ≡ false → value_of ps k ≡ none

-- how many keys a command's parameters and its result have; a map of phases among them has nothing unknown once it is read
abbrev pub parameter_keys : ℕ → ℕ
parameter_keys c = cond (eqb c 1 || eqb c 3 || eqb c 5) 4 1

abbrev pub result_keys : ℕ → ℕ
result_keys c = cond (eqb c 1) 5 (cond (eqb c 3) 3 (cond (eqb c 5) 2 1))

-- the commands that omit a duration of 0: those that set limits and current limits
abbrev pub omits_zero : ℕ → Bool
omits_zero c = eqb c 1 || eqb c 5

-- "no unknown key and no written zero duration", the latter of the commands that omit it
pub record PlainRequest (ps : Pairs) : Type 0 where
  pub envelope : KeysTo 5 ps
  pub parameters : (c : ℕ) (m : Pairs) → value_of ps 4 ≡ some (Item.uint c) → value_of ps 5 ≡ some (Item.map m)
      → KeysTo (parameter_keys c) m × (omits_zero c ≡ true → value_of m 3 ≡ some (Item.uint 0) → ⊥)

pub record PlainResponse (c : ℕ) (ps : Pairs) : Type 0 where
  pub envelope : KeysTo 3 ps
  pub result : (m : Pairs) → value_of ps 3 ≡ some (Item.map m) → KeysTo (result_keys c) m

abbrev pub RequestWritesAgain : Type 0
RequestWritesAgain =
    (frame : List ℕ) → Bytes frame → (r : Request) (ps : Pairs) → read_request frame ≡ Reading.Is r → payload_of (payload_in frame) ≡ some (Item.map ps) → PlainRequest ps
    → item_frame (request_item r) ≡ frame

abbrev pub ResponseWritesAgain : Type 0
ResponseWritesAgain =
    (c : ℕ) (frame : List ℕ) → Bytes frame → (r : Response) (ps : Pairs) → read_response c frame ≡ Answer.Is r → payload_of (payload_in frame) ≡ some (Item.map ps) → PlainResponse c ps
    → item_frame (response_item r) ≡ frame
