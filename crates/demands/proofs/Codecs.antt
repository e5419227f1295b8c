-- The codecs' numbers and the report's are those of the first tests that hold.
use mathlib.Core.Path.{◌≡◌, refl, sym, ap, subst}
use mathlib.Core.Bool.{Bool, true, false, cond, not, ◌&&◌}
use mathlib.Core.List.{List, [], ◌∷◌}
use mathlib.Core.Option.{Option, none, some, bind}
use Prim.Native.Nat.{ℕ}
use lib.Dec.{leb}
use lib.ListN.{length}
use native.Mathlib.Omega.{arith}
use Rattle.wire_cbor.specs.Item.{Item, payload_of}
use Rattle.refusals.specs.Refusals.{first_of}
use Rattle.wire_messages.specs.declared.Command.{Command}
use Rattle.wire_messages.specs.declared.Request.{Request}
use Rattle.wire_messages.specs.declared.Response.{Response}
use Rattle.wire_prefix.specs.Prefix.{framed, payload_in}
use Rattle.wire_fields.specs.Fields.{map_in}
use Rattle.wire_requests.specs.Requests.{Envelope, envelope_in, with_command, from_envelope, from_payload, read_request, reading_number}
use Rattle.wire_messages.specs.Numbers.{served_at, served_command}
use Rattle.wire_requests.specs.WrittenRequests.{request_item, request_wide, request_unserved, request_number}
use Rattle.wire_responses.specs.Responses.{response_in, answer_of, answer_in, answer_from, read_response, answer_number}
use Rattle.wire_responses.specs.WrittenResponses.{response_item, response_fits, response_number}
use Rattle.wire_output.specs.Writing.{item_frame, writing_number}
use Rattle.wire_requests.specs.declared.reading.Reading.{Reading}
use Rattle.wire_responses.specs.declared.reading.Answer.{Answer}
use Rattle.device_store.specs.Zones.{any}
use Rattle.report.specs.declared.Inputs.{Inputs}
use Rattle.report.specs.Report.{report_number}
use Rattle.demands.specs.Tests.{missing, envelope_of, unserved, parameters_of, read_tests, answer_tests, write_request_tests, write_response_tests, report_tests}
use Rattle.demands.specs.Answers.{ByTests}
use Rattle.demands.proofs.FirstTests.{each, first-append, by_tests}

-- READ
module _ where
  parameters : (e : Envelope) (o : Option Command) → reading_number (with_command e o) ≡ cond (missing o) 3 0
  unfolding missing
  parameters e none = refl
  parameters e (some c) = refl

  served : (e : Envelope) (b : Bool) → reading_number (cond b (with_command e (parameters_of e)) (Reading.Unserved e.id)) ≡ cond (not b) 4 (cond (missing (parameters_of e)) 3 0)
  served e true = parameters e (parameters_of e)
  served e false = refl

  envelope : (o : Option Envelope) → reading_number (from_envelope o) ≡ cond (missing o) 3 (cond (unserved o) 4 (cond (missing (bind o parameters_of)) 3 0))
  unfolding from_envelope missing unserved bind
  envelope none = refl
  envelope (some e) = served e (served_at e.endpoint e.feature && served_command e.command)

pub read_first : (bytes : List ℕ) → reading_number (read_request bytes) ≡ first_of (read_tests bytes)
unfolding read_request read_tests first_of bind
read_first bytes = go (framed bytes) (payload_of (payload_in bytes))
  where
    go : (b : Bool) (o : Option Item) → reading_number (cond b (from_payload o) (Reading.Refused 1))
        ≡ cond (not b) 1 (cond (missing o) 2
        (cond (missing (bind (bind o map_in) envelope_in)) 3 (cond (unserved (bind (bind o map_in) envelope_in)) 4 (cond (missing (bind (bind (bind o map_in) envelope_in) parameters_of)) 3 0))))
    go false o = refl
    go true none = unfold from_payload missing in refl
    go true (some i) = unfold from_payload missing in envelope (bind (map_in i) envelope_in)

pub reads-request : (bytes : List ℕ) → ByTests (reading_number (read_request bytes)) (read_tests bytes)
reads-request bytes = by_tests (reading_number (read_request bytes)) (read_tests bytes) (read_first bytes) (unfold read_tests any in refl)

answered : (o : Option Response) → answer_number (answer_of o) ≡ cond (missing o) 3 0
unfolding missing
answered none = refl
answered (some r) = refl

answer-first : (command : ℕ) (bytes : List ℕ) → answer_number (read_response command bytes) ≡ first_of (answer_tests command bytes)
unfolding read_response answer_from answer_tests first_of bind
answer-first command bytes = go (served_command command) (framed bytes) (payload_of (payload_in bytes))
  where
    go : (a b : Bool) (o : Option Item) → answer_number (cond a (cond b (answer_in command o) (Answer.Refused 1)) (Answer.Refused 4))
        ≡ cond (not a) 4 (cond (not b) 1 (cond (missing o) 2 (cond (missing (bind (bind o map_in) (response_in command))) 3 0)))
    go false b o = refl
    go true false o = refl
    go true true none = unfold answer_in missing in refl
    go true true (some i) = unfold answer_in missing in answered (bind (map_in i) (response_in command))

pub reads-response : (command : ℕ) (bytes : List ℕ) → ByTests (answer_number (read_response command bytes)) (answer_tests command bytes)
reads-response command bytes = by_tests (answer_number (read_response command bytes)) (answer_tests command bytes) (answer-first command bytes) (unfold answer_tests any in refl)

-- WRITTEN
-- 15 stands behind the tests of the message
write_request_first : (r : Request) (room : ℕ) → writing_number (request_number r) (item_frame (request_item r)) room ≡ first_of (write_request_tests r room)
unfolding writing_number request_number write_request_tests
write_request_first r room =
    sym (first-append ((request_wide r, 3) ∷ (request_unserved r, 4) ∷ []) ((not (leb (length (item_frame (request_item r))) room), 15) ∷ []) (unfold each in refl))

pub writes_request : (r : Request) (room : ℕ) → ByTests (writing_number (request_number r) (item_frame (request_item r)) room) (write_request_tests r room)
writes_request r room = by_tests _ (write_request_tests r room) (write_request_first r room) (unfold write_request_tests any in refl)

write_response_first : (command : ℕ) (r : Response) (room : ℕ)
    → writing_number (response_number command r) (item_frame (response_item r)) room ≡ first_of (write_response_tests command r room)
unfolding writing_number response_number write_response_tests
write_response_first command r room =
    sym (first-append ((not (served_command command), 4) ∷ (not (response_fits command r), 3) ∷ []) ((not (leb (length (item_frame (response_item r))) room), 15) ∷ [])
    (unfold each in refl))

pub writes_response : (command : ℕ) (r : Response) (room : ℕ)
    → ByTests (writing_number (response_number command r) (item_frame (response_item r)) room) (write_response_tests command r room)
writes_response command r room = by_tests _ (write_response_tests command r room) (write_response_first command r room) (unfold write_response_tests any in refl)

-- THE REPORT
pub reports : (i : Inputs) (attributes : List ℕ) (room : ℕ) → ByTests (report_number i attributes room) (report_tests i attributes room)
unfolding report_number report_tests
reports i attributes room = by_tests _ (report_tests i attributes room) refl (unfold any in refl)

-- THE MESSAGE'S ID: that of the envelope
with_id : (e : Envelope) (o : Option Command) (q : Request) → with_command e o ≡ Reading.Is q → q.id ≡ e.id
with_id e none q p = absurd (let w : ◌≡◌ {A = ℕ} 0 1 = cc in omega arith)
with_id e (some c) q p = let w : record { id = e.id; endpoint = e.endpoint; feature = e.feature; command = c } ≡ q = cc in sym (ap (λ (r : Request). r.id) w)

envelope_id : (e : Envelope) (q : Request) → from_envelope (some e) ≡ Reading.Is q → q.id ≡ e.id
unfolding from_envelope
envelope_id e q p = go (served_at e.endpoint e.feature && served_command e.command) p
  where
    go : (b : Bool) → cond b (with_command e (parameters_of e)) (Reading.Unserved e.id) ≡ Reading.Is q → q.id ≡ e.id
    go true p = with_id e (parameters_of e) q p
    go false p = absurd (let w : ◌≡◌ {A = ℕ} 0 1 = cc in omega arith)

envelope_unserved : (e : Envelope) (i : ℕ) → from_envelope (some e) ≡ Reading.Unserved i → i ≡ e.id
unfolding from_envelope
envelope_unserved e i p = go (served_at e.endpoint e.feature && served_command e.command) p
  where
    parameters_read : (o : Option Command) → with_command e o ≡ Reading.Unserved i → i ≡ e.id
    parameters_read none p = absurd (let w : ◌≡◌ {A = ℕ} 0 1 = cc in omega arith)
    parameters_read (some c) p = absurd (let w : ◌≡◌ {A = ℕ} 0 1 = cc in omega arith)

    go : (b : Bool) → cond b (with_command e (parameters_of e)) (Reading.Unserved e.id) ≡ Reading.Unserved i → i ≡ e.id
    go true p = parameters_read (parameters_of e) p
    go false p = let w : e.id ≡ i = cc in sym w

-- a frame that reads as anything reads by its envelope, where that is sound
by_envelope : (bytes : List ℕ) (e : Envelope) → envelope_of bytes ≡ some e → (P : Reading → Type 0) → P (Reading.Refused 1) → P (from_envelope (some e)) → P (read_request bytes)
unfolding read_request bind
by_envelope bytes e k P one p = go (framed bytes) (payload_of (payload_in bytes)) k
  where
    go : (b : Bool) (o : Option Item) → bind (bind o map_in) envelope_in ≡ some e → P (cond b (from_payload o) (Reading.Refused 1))
    go false o k = one
    go true none k = absurd (let w : ◌≡◌ {A = ℕ} 0 1 = cc in omega arith)
    go true (some i) k = unfold from_payload in subst (λ (v : Option Envelope). P (from_envelope v)) (sym k) p

pub id-read : (bytes : List ℕ) (e : Envelope) (q : Request) → envelope_of bytes ≡ some e → read_request bytes ≡ Reading.Is q → q.id ≡ e.id
id-read bytes e q k p =
    by_envelope bytes e k (λ r. r ≡ Reading.Is q → q.id ≡ e.id) (λ w. absurd (let w : ◌≡◌ {A = ℕ} 0 1 = cc in omega arith)) (envelope_id e q) p

pub id-unserved : (bytes : List ℕ) (e : Envelope) (i : ℕ) → envelope_of bytes ≡ some e → read_request bytes ≡ Reading.Unserved i → i ≡ e.id
id-unserved bytes e i k p =
    by_envelope bytes e k (λ r. r ≡ Reading.Unserved i → i ≡ e.id) (λ w. absurd (let w : ◌≡◌ {A = ℕ} 0 1 = cc in omega arith)) (envelope_unserved e i) p
