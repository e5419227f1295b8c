-- Every response of the frame call can be read, and none is longer than the longest.
use mathlib.Core.Path.{◌≡◌, refl}
use Prim.Native.Nat.{◌≤◌}
use native.Mathlib.Omega.{arith}
use lib.ListN.{length}
use Rattle.wire_messages.specs.Numbers.{wire_number, served_command}
use Rattle.wire_requests.specs.Requests.{read_request}
use Rattle.wire_responses.specs.WrittenResponses.{status_alone}
use Rattle.wire_responses.specs.Sizes.{longest_response}
use Rattle.wire_requests.specs.declared.reading.Reading.{Reading}
use Rattle.wire_laws.proofs.RequestAgain.{request-writable}
use Rattle.wire_laws.proofs.ResponseBack.{response_reads_back}
use Rattle.wire_laws.proofs.Longest.{response_longest}
use Rattle.kernel.specs.Frame.{response_to, response_frame}
use Rattle.kernel_laws.specs.Laws.{ResponsesRead, UnservedReads, ResponsesShort}
use Rattle.kernel_laws.proofs.InRange.{response-writable, unserved-writable}
use Rattle.kernel_laws.proofs.Unserved.{unserved-id}

pub responses_read : ResponsesRead
unfolding response_frame
responses_read ws z t bytes r e =
    response_reads_back (wire_number r.command) (response_to ws z t r) (response-writable ws z t r (request-writable bytes r e).1)

pub unserved-reads : UnservedReads
unfolding response_frame
unserved-reads ws z t bytes i c e served = response_reads_back c (status_alone i 4) (unserved-writable i c (unserved-id bytes i e) served)

pub responses_short : ResponsesShort
unfolding response_frame
responses_short ws z t bytes = go (read_request bytes) refl
  where
    go : (o : Reading) → read_request bytes ≡ o → length (response_frame ws z t o) ≤ longest_response
    go (Reading.Is r) e = response_longest (wire_number r.command) (response_to ws z t r) (response-writable ws z t r (request-writable bytes r e).1)
    go (Reading.Unserved i) e = response_longest 1 (status_alone i 4) (unserved-writable i 1 (unserved-id bytes i e) (unfold served_command in refl))
    go (Reading.Refused n) e = omega arith
