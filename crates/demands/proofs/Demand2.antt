-- Demand 2, proved.
use mathlib.Core.Path.{◌≡◌, refl}
use mathlib.Core.List.{List, ◌++◌}
use Prim.Native.Nat.{ℕ}
use lib.ListN.{length, drop}
use Rattle.wire_cbor.proofs.Payload.{payload_exact, one_item}
use Rattle.wire_messages.specs.declared.Request.{Request}
use Rattle.wire_messages.specs.declared.Response.{Response}
use Rattle.wire_requests.specs.Requests.{read_request}
use Rattle.wire_responses.specs.WrittenResponses.{status_alone}
use Rattle.wire_output.specs.Writing.{writing_number, written_of}
use Rattle.wire_requests.specs.declared.reading.Reading.{Reading}
use Rattle.wire_laws.proofs.Trips.{framed-exact, frame-stands}
use Rattle.wire_laws.proofs.RequestBack.{request_reads_back}
use Rattle.wire_laws.proofs.RequestAgain.{request-writable, request_writes_again}
use Rattle.wire_laws.proofs.ResponseBack.{response_reads_back}
use Rattle.wire_laws.proofs.ResponseAgain.{response-writable, response_writes_again}
use Rattle.wire_laws.proofs.PassedOver.{request_unknown_passed, response_unknown_passed, zero-duration_passed}
use Rattle.device_holds.proofs.Rows.{table}
use Rattle.kernel_laws.proofs.Readable.{responses_read, unserved-reads}
use Rattle.kernel_laws.proofs.Expiry.{expiry}
use Rattle.device_calls.specs.Commands.{command_answer}
use Rattle.kernel.specs.Frame.{response_to, response_frame, frame_answer, frame_out}
use Rattle.report.specs.declared.Inputs.{Inputs}
use Rattle.report.specs.Lists.{front}
use Rattle.report.specs.Rules.{breaches}
use Rattle.report.specs.Report.{report_number, report_of, flat, pairs_after}
use Rattle.report.proofs.Laws.{exact, ordered}
use Rattle.demands.specs.Answers.{Written, Determined}
use Rattle.demands.proofs.Codecs.{id-read, id-unserved}
use Rattle.demands.specs.Demands.{Demand2}

-- an accepted writer answers its frame's length
counts : (n : ℕ) (frame out : List ℕ) → writing_number n frame (length out) ≡ 0 → (written_of n frame (length out)).length ≡ length frame
unfolding written_of
counts n frame out e = rw e

-- the kernel's response has each part that is determined
determined : (ws : List ℕ) (z t : ℕ) (q : Request) → Determined ws z t q (response_to ws z t q)
unfolding response_to command_answer
determined ws z t q = record { id = refl; status = refl; result = refl }

response : (ws : List ℕ) (z t : ℕ) (bytes out : List ℕ) (q : Request) → read_request bytes ≡ Reading.Is q
    → (r : Response) × Determined ws z t q r × Written out (frame_out ws z t bytes out) (frame_answer ws z t bytes (length out)).length r
unfolding frame_out frame_answer response_frame
response ws z t bytes out q e = (response_to ws z t q, determined ws z t q, record { buffer = rw e; counted = rw e })

unserved : (ws : List ℕ) (z t : ℕ) (bytes out : List ℕ) (i : ℕ) → read_request bytes ≡ Reading.Unserved i
    → Written out (frame_out ws z t bytes out) (frame_answer ws z t bytes (length out)).length (status_alone i 4)
unfolding frame_out frame_answer response_frame
unserved ws z t bytes out i e = record { buffer = rw e; counted = rw e }

reported : (i : Inputs) (attributes out : List ℕ) → report_number i attributes (length out) ≡ 0
    → (pairs_after i attributes out ≡ flat (breaches i attributes) ++ drop (length (flat (breaches i attributes))) out) × ((report_of i attributes (length out)).count ≡ length (breaches i attributes))
unfolding pairs_after report_of front
reported i attributes out e = (rw e, rw e)

pub demand_2 : Demand2
demand_2 =
    record {
      strict = payload_exact;
      encoded = one_item;
      framed = framed-exact;
      request_back = request_reads_back;
      response_back = response_reads_back;
      kernel_back = responses_read;
      unserved_back = unserved-reads;
      request_writable = request-writable;
      response_writable = response-writable;
      request_again = request_writes_again;
      response_again = response_writes_again;
      request_unknown = request_unknown_passed;
      response_unknown = response_unknown_passed;
      zero_duration = zero-duration_passed;
      stands = frame-stands;
      counted = counts;
      response = response;
      unserved = unserved;
      id_read = id-read;
      id_unserved = id-unserved;
      table = table;
      expiry = expiry;
      exact = exact;
      ordered = ordered;
      reported = reported;
    }
