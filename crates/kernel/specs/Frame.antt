-- The frame call: a frame's bytes in, the device, the response's bytes out.
use Rattle.std.specs.Prelude.{ℕ, cond, List, [], leb, eqb, length}
use Rattle.wire_bytes.specs.Bytes.{put_whole}
use Rattle.wire_messages.specs.declared.Request.{Request}
use Rattle.wire_messages.specs.declared.Response.{Response}
use Rattle.wire_responses.specs.Replies.{reply_to}
use Rattle.wire_requests.specs.Requests.{read_request, reading_number}
use Rattle.wire_responses.specs.WrittenResponses.{response_item, status_alone}
use Rattle.wire_output.specs.Writing.{item_frame, writing_number}
use Rattle.wire_requests.specs.declared.reading.Reading.{Reading}
use Rattle.device_calls.specs.Commands.{command_number, command_after, command_answer}
use Rattle.kernel.specs.declared.frame_call.Framed.{Framed}
use Rattle.refusals.specs.Refusals.{NOT_SERVED}

-- the response to a request: its message id, the number as status, and the result where one stands
unfoldable pub response_to : List ℕ → ℕ → ℕ → Request → Response
response_to ws z t r = reply_to r (command_number ws z t r.command) (command_answer ws z t r.command).outcome

-- the table's column "Response frame": none at 1, 2 and 3; status 4; a status and its result else
unfoldable pub response_frame : List ℕ → ℕ → ℕ → Reading → List ℕ
response_frame ws z t (Reading.Refused n) = []
response_frame ws z t (Reading.Unserved i) = item_frame (response_item (status_alone i NOT_SERVED))
response_frame ws z t (Reading.Is r) = item_frame (response_item (response_to ws z t r))

-- "Order, for a frame: 1, 2, envelope 3, 4, parameters 3, 5, 9, 10, 11, 12, 13, 14, 15"
unfoldable pub number_from : List ℕ → ℕ → ℕ → Reading → ℕ → ℕ
number_from ws z t (Reading.Refused n) room = reading_number (Reading.Refused n)
number_from ws z t (Reading.Unserved i) room = reading_number (Reading.Unserved i)
number_from ws z t (Reading.Is r) room = writing_number (command_number ws z t r.command) (response_frame ws z t (Reading.Is r)) room

-- "where that frame has no room, the number stands and nothing is written"
abbrev pub answer_from : List ℕ → ℕ → ℕ → Reading → ℕ → Framed
answer_from ws z t reading room =
    record {
      number = number_from ws z t reading room;
      length = cond (leb (length (response_frame ws z t reading)) room) (length (response_frame ws z t reading)) 0;
    }

-- the device: the command's effect where the number is 0
unfoldable pub obeyed_by : List ℕ → ℕ → ℕ → Reading → List ℕ
obeyed_by ws z t (Reading.Refused n) = ws
obeyed_by ws z t (Reading.Unserved i) = ws
obeyed_by ws z t (Reading.Is r) = command_after ws z t r.command

abbrev pub after_from : List ℕ → ℕ → ℕ → Reading → ℕ → List ℕ
after_from ws z t reading room = cond (eqb (number_from ws z t reading room) 0) (obeyed_by ws z t reading) ws

-- the output: "the response frame from the front of the output buffer", past it as it was
abbrev pub out_from : List ℕ → ℕ → ℕ → Reading → List ℕ → List ℕ
out_from ws z t reading out = put_whole out 0 (response_frame ws z t reading)

-- THE CALL: zone z, second t, the frame's bytes, the output
unfoldable pub frame_number : List ℕ → ℕ → ℕ → List ℕ → ℕ → ℕ
frame_number ws z t bytes room = number_from ws z t (read_request bytes) room

unfoldable pub frame_answer : List ℕ → ℕ → ℕ → List ℕ → ℕ → Framed
frame_answer ws z t bytes room = answer_from ws z t (read_request bytes) room

unfoldable pub frame_after : List ℕ → ℕ → ℕ → List ℕ → ℕ → List ℕ
frame_after ws z t bytes room = after_from ws z t (read_request bytes) room

unfoldable pub frame_out : List ℕ → ℕ → ℕ → List ℕ → List ℕ → List ℕ
frame_out ws z t bytes out = out_from ws z t (read_request bytes) out
