-- What is proved of the frame call's responses. The proof of ResponsesRead is responses_read, in proofs/, and so for the others.
-- Assumes nothing: these are statements.
use Rattle.std.specs.Prelude.{ℕ, ◌≤◌, ◌≡◌, true, List, length}
use Rattle.wire_messages.specs.Numbers.{wire_number}
use Rattle.wire_messages.specs.declared.Request.{Request}
use Rattle.wire_messages.specs.Numbers.{served_command}
use Rattle.wire_requests.specs.Requests.{read_request}
use Rattle.wire_responses.specs.WrittenResponses.{status_alone}
use Rattle.wire_responses.specs.Responses.{read_response}
use Rattle.wire_responses.specs.Sizes.{longest_response}
use Rattle.wire_requests.specs.declared.reading.Reading.{Reading}
use Rattle.wire_responses.specs.declared.reading.Answer.{Answer}
use Rattle.kernel.specs.Frame.{response_to, response_frame}
use Rattle.refusals.specs.Refusals.{NOT_SERVED}

-- the response to a request reads back as that response, for every content of the words
abbrev pub ResponsesRead : Type 0
ResponsesRead =
    (ws : List ℕ) (z t : ℕ) (bytes : List ℕ) (r : Request) → read_request bytes ≡ Reading.Is r
    → read_response (wire_number r.command) (response_frame ws z t (Reading.Is r)) ≡ Answer.Is (response_to ws z t r)

-- and so does the one to a request that is not served, for every command that its sender may have meant
abbrev pub UnservedReads : Type 0
UnservedReads =
    (ws : List ℕ) (z t : ℕ) (bytes : List ℕ) (i c : ℕ) → read_request bytes ≡ Reading.Unserved i → served_command c ≡ true
    → read_response c (response_frame ws z t (Reading.Unserved i)) ≡ Answer.Is (status_alone i NOT_SERVED)

-- no response of the frame call is longer than the longest, for every content of the words: so much room is always enough
abbrev pub ResponsesShort : Type 0
ResponsesShort = (ws : List ℕ) (z t : ℕ) (bytes : List ℕ) → length (response_frame ws z t (read_request bytes)) ≤ longest_response
