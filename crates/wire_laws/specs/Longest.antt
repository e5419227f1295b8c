-- How long the frames that are written can be, each stated once. The proof of RequestLongest is request_longest, in proofs/, and so
-- for the others. Assumes nothing: these are statements.
use Rattle.std.specs.Prelude.{ℕ, ◌≤◌, ◌≡◌, length}
use Rattle.wire_messages.specs.declared.Request.{Request}
use Rattle.wire_messages.specs.declared.Response.{Response}
use Rattle.wire_requests.specs.WrittenRequests.{request_item, request_number}
use Rattle.wire_responses.specs.WrittenResponses.{response_item, response_number}
use Rattle.wire_output.specs.Writing.{item_frame}
use Rattle.wire_requests.specs.Sizes.{longest_request}
use Rattle.wire_responses.specs.Sizes.{longest_response}

-- no request that is written is longer, and one is as long
abbrev pub RequestLongest : Type 0
RequestLongest = (r : Request) → request_number r ≡ 0 → length (item_frame (request_item r)) ≤ longest_request

abbrev pub RequestReached : Type 0
RequestReached = (r : Request) × (request_number r ≡ 0) × (length (item_frame (request_item r)) ≡ longest_request)

-- no response that is written is longer, and one is as long
abbrev pub ResponseLongest : Type 0
ResponseLongest = (c : ℕ) (r : Response) → response_number c r ≡ 0 → length (item_frame (response_item r)) ≤ longest_response

abbrev pub ResponseReached : Type 0
ResponseReached = (c : ℕ) × (r : Response) × (response_number c r ≡ 0) × (length (item_frame (response_item r)) ≡ longest_response)
