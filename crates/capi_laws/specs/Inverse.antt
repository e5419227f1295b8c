-- The flat forms that C has lose nothing, and a refused reading leaves what it was lent. The proof of RequestKept is request_kept, in proofs/, and so for the others.
-- Assumes nothing: these are statements.
use Rattle.std.specs.Prelude.{ℕ, ◌≡◌, true, false, List, ℤ, None, Some}
use Rattle.wire_messages.specs.Options.{Amount}
use Rattle.wire_messages.specs.declared.Request.{Request}
use Rattle.wire_messages.specs.declared.Response.{Response}
use Rattle.wire_requests.specs.WrittenRequests.{is_served, request_item, request_number}
use Rattle.wire_requests.specs.Requests.{read_request, reading_number}
use Rattle.wire_responses.specs.Responses.{read_response, answer_number}
use Rattle.wire_responses.specs.WrittenResponses.{response_item, response_number}
use Rattle.wire_laws.specs.RoundTrips.{Command64}
use Rattle.wire_output.specs.Writing.{item_frame}
use Rattle.wire_requests.specs.declared.reading.Reading.{Reading}
use Rattle.wire_responses.specs.declared.reading.Answer.{Answer}
use Rattle.device_holds.specs.Holds.{shown}
use Rattle.capi_fields.specs.Amounts.{flat_amount}
use Rattle.capi_messages.specs.Requests.{setpoints_of, request_of, flat_request, request_in, request_words, request_values}
use Rattle.capi_messages.specs.Responses.{response_of, flat_response, response_in, response_words, response_values}
use Rattle.capi_messages.specs.declared.flat_requests.FlatRequest.{FlatRequest}
use Rattle.capi_messages.specs.declared.flat_responses.FlatResponse.{FlatResponse}
use Rattle.capi.specs.Requests.{request_words_after, request_values_after}
use Rattle.capi.specs.Responses.{response_words_after, response_values_after}

-- REQUESTS
-- a request of a served command, made flat and taken back, is itself
abbrev pub RequestKept : Type 0
RequestKept = (r : Request) → is_served r.command ≡ true → request_of (flat_request r r.command) ≡ r

-- a flat request that says nothing beside what its command has
abbrev pub Plain : FlatRequest → Type 0
Plain q = flat_request (request_of q) (request_of q).command ≡ q

-- every request that is read is plain
abbrev pub ReadPlain : Type 0
ReadPlain = (bytes : List ℕ) (r : Request) → read_request bytes ≡ Reading.Is r → Plain (flat_request r r.command)

-- words and values tell a flat request whole
abbrev pub RequestInWords : Type 0
RequestInWords = (q : FlatRequest) → request_in (request_words q) (request_values q) ≡ q

-- "What is written reads back equal", for C, whatever the lent words and values held
abbrev pub FlatReadsBack : Type 0
FlatReadsBack =
    (q : FlatRequest) (ws : List ℕ) (vs : List ℤ) → Plain q → Command64 (request_of q).command → request_number (request_of q) ≡ 0
    → let x = read_request (item_frame (request_item (request_of q))) in
    (reading_number x ≡ 0) × (request_words_after x ws ≡ request_words q) × (request_values_after x vs ≡ request_values q)

-- "unchanged at every refusal", of what a reading is lent
abbrev pub RequestRefusedWhole : Type 0
RequestRefusedWhole =
    (x : Reading) (ws : List ℕ) (vs : List ℤ) → (reading_number x ≡ 0 → ⊥) → (request_words_after x ws ≡ ws) × (request_values_after x vs ≡ vs)

-- L8 in C, "for setpoints it must now write the 0": a duration is omitted where that is asked for beside a 0, and nowhere else
abbrev pub SetpointZeroWritten : Type 0
SetpointZeroWritten = (q : FlatRequest) → q.omitted ≡ false → (setpoints_of q).duration ≡ Some q.duration

abbrev pub SetpointOmitted : Type 0
SetpointOmitted = (q : FlatRequest) → q.omitted ≡ true → q.duration ≡ 0 → (setpoints_of q).duration ≡ None

abbrev pub OmissionPassedOver : Type 0
OmissionPassedOver = (q : FlatRequest) → (q.duration ≡ 0 → ⊥) → (setpoints_of q).duration ≡ Some q.duration

-- AMOUNTS of a response are as an ask shows them
abbrev pub AmountShown : Type 0
AmountShown = (a : Amount) → flat_amount a ≡ shown a

-- RESPONSES, for the command that the caller names
abbrev pub ResponseKept : Type 0
ResponseKept = (command : ℕ) (r : Response) → response_number command r ≡ 0 → response_of command (flat_response r r.outcome) ≡ r

abbrev pub PlainAnswer : ℕ → FlatResponse → Type 0
PlainAnswer command p = flat_response (response_of command p) (response_of command p).outcome ≡ p

abbrev pub AnswerPlain : Type 0
AnswerPlain = (command : ℕ) (bytes : List ℕ) (r : Response) → read_response command bytes ≡ Answer.Is r → PlainAnswer command (flat_response r r.outcome)

abbrev pub ResponseInWords : Type 0
ResponseInWords = (p : FlatResponse) → response_in (response_words p) (response_values p) ≡ p

abbrev pub FlatAnswerReadsBack : Type 0
FlatAnswerReadsBack =
    (command : ℕ) (p : FlatResponse) (ws : List ℕ) (vs : List ℤ) → PlainAnswer command p → response_number command (response_of command p) ≡ 0
    → let x = read_response command (item_frame (response_item (response_of command p))) in
    (answer_number x ≡ 0) × (response_words_after x ws ≡ response_words p) × (response_values_after x vs ≡ response_values p)

abbrev pub ResponseRefusedWhole : Type 0
ResponseRefusedWhole =
    (x : Answer) (ws : List ℕ) (vs : List ℤ) → (answer_number x ≡ 0 → ⊥) → (response_words_after x ws ≡ ws) × (response_values_after x vs ≡ vs)
