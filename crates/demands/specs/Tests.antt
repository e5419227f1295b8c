-- Every call's tests, in document 01's order: the first that holds gives the number, and 0 stands where none does.
use Rattle.std.specs.Prelude.{ℕ, Bool, true, false, not, ◌&&◌, List, [], ◌∷◌, ◌++◌, ltb, leb, length, ◌*◌}
use Rattle.std.proofs.Math.Option.{Option, none, some, bind}
use Rattle.wire_cbor.specs.Item.{Item, Pairs, payload_of}
use Rattle.wire_messages.specs.declared.Command.{Command}
use Rattle.wire_messages.specs.declared.Request.{Request}
use Rattle.wire_messages.specs.declared.Response.{Response}
use Rattle.wire_prefix.specs.Prefix.{framed, payload_in}
use Rattle.wire_fields.specs.Fields.{map_in}
use Rattle.wire_requests.specs.Requests.{Envelope, envelope_in, command_in, read_request}
use Rattle.wire_messages.specs.Numbers.{served_at, served_command}
use Rattle.wire_requests.specs.WrittenRequests.{request_item, request_wide, request_unserved}
use Rattle.wire_responses.specs.Responses.{response_in}
use Rattle.wire_responses.specs.WrittenResponses.{response_item, response_fits}
use Rattle.wire_output.specs.Writing.{item_frame}
use Rattle.wire_requests.specs.declared.reading.Reading.{Reading}
use Rattle.device_store.specs.Sizes.{slots}
use Rattle.device_store.specs.Zones.{slot_of, joined, zone_of}
use Rattle.device_store.specs.Words.{clock_of, override_of, settings_of, zones_of}
use Rattle.device_calls.specs.Calls.{join_tests, leave_tests, link_tests, override_tests, clear_tests, move_tests}
use Rattle.device_calls.specs.Commands.{command_tests}
use Rattle.kernel.specs.Frame.{response_frame}
use Rattle.report.specs.declared.Inputs.{Inputs}
use Rattle.report.specs.Lists.{ascends}
use Rattle.report.specs.Rules.{breaches}
use Rattle.report.specs.Report.{in_range}
use Rattle.demands.specs.Run.{Call, join, leave, lost, back, override, clear, move, frame}
use Rattle.refusals.specs.Refusals.{BAD_CBOR, BAD_LENGTH, BAD_MESSAGE, BAD_SETTINGS, NOT_ASCENDING, NOT_SERVED, NO_SPACE}

-- WHAT A FRAME'S BYTES HAVE IN THEM: nothing where they are not sound so far
unfoldable pub missing : {A : Type 0} → Option A → Bool
missing none = true
missing (some x) = false

abbrev pub item_of : List ℕ → Option Item
item_of bytes = payload_of (payload_in bytes)

abbrev pub map_of : List ℕ → Option Pairs
map_of bytes = bind (item_of bytes) map_in

abbrev pub envelope_of : List ℕ → Option Envelope
envelope_of bytes = bind (map_of bytes) envelope_in

unfoldable pub unserved : Option Envelope → Bool
unserved none = false
unserved (some e) = not (served_at e.endpoint e.feature && served_command e.command)

abbrev pub parameters_of : Envelope → Option Command
parameters_of e = command_in e.command e.parameters

-- THE CODECS
-- a request read: "1, 2, envelope 3, 4, parameters 3"
unfoldable pub read_tests : List ℕ → List (Bool × ℕ)
read_tests bytes =
    (not (framed bytes), BAD_LENGTH) ∷ (missing (item_of bytes), BAD_CBOR) ∷ (missing (envelope_of bytes), BAD_MESSAGE) ∷ (unserved (envelope_of bytes), NOT_SERVED)
    ∷ (missing (bind (envelope_of bytes) parameters_of), BAD_MESSAGE) ∷ []

-- a response read for a command: "an unserved one is 4, tested first", then 1, 2, 3
unfoldable pub answer_tests : ℕ → List ℕ → List (Bool × ℕ)
answer_tests command bytes =
    (not (served_command command), NOT_SERVED) ∷ (not (framed bytes), BAD_LENGTH) ∷ (missing (item_of bytes), BAD_CBOR) ∷ (missing (bind (map_of bytes) (response_in command)), BAD_MESSAGE)
    ∷ []

-- 15: "the complete output is longer than the lent buffer"
abbrev pub too_long : Item → ℕ → Bool
too_long i room = not (leb (length (item_frame i)) room)

-- "Request writers answer 3 for a value out of range, then 4 for what is not served, then 15"
unfoldable pub write_request_tests : Request → ℕ → List (Bool × ℕ)
write_request_tests r room = (request_wide r, BAD_MESSAGE) ∷ (request_unserved r, NOT_SERVED) ∷ (too_long (request_item r) room, NO_SPACE) ∷ []

-- "an unserved one is 4, tested first, in writing too"; "response writers 3, then 15"
unfoldable pub write_response_tests : ℕ → Response → ℕ → List (Bool × ℕ)
write_response_tests command r room =
    (not (served_command command), NOT_SERVED) ∷ (not (response_fits command r), BAD_MESSAGE) ∷ (too_long (response_item r) room, NO_SPACE) ∷ []

-- "Conformance: 16, 17, 15"; the room is counted in numbers, two a pair
unfoldable pub report_tests : Inputs → List ℕ → ℕ → List (Bool × ℕ)
report_tests i attributes room =
    (not (in_range i), BAD_SETTINGS) ∷ (not (ascends attributes), NOT_ASCENDING) ∷ (ltb room (2 * length (breaches i attributes)), NO_SPACE) ∷ []

-- THE DEVICE
-- the request that was read, asked of the device: "5, 9, 10, 11, 12, 13, 14, 15"
unfoldable pub obey_tests : List ℕ → ℕ → ℕ → ℕ → Reading → List (Bool × ℕ)
obey_tests ws z t room (Reading.Is r) =
    command_tests (clock_of ws) (joined (zones_of ws) z) (zone_of (zones_of ws) z).up (settings_of ws) (override_of ws) t r.command
    ++ ((not (leb (length (response_frame ws z t (Reading.Is r))) room), NO_SPACE) ∷ [])
obey_tests ws z t room (Reading.Unserved i) = []
obey_tests ws z t room (Reading.Refused n) = []

-- "Order, for a frame: 1, 2, envelope 3, 4, parameters 3, 5, 9, 10, 11, 12, 13, 14, 15"
unfoldable pub frame_tests : List ℕ → ℕ → ℕ → List ℕ → ℕ → List (Bool × ℕ)
frame_tests ws z t bytes room = read_tests bytes ++ obey_tests ws z t room (read_request bytes)

-- "For other device calls: 5, then 6, 18, 9, 7, 8, 15"; 15 is for a plan, which is no call that moves a device
unfoldable pub tests : List ℕ → Call → List (Bool × ℕ)
tests ws (join z k t) = join_tests (clock_of ws) (joined (zones_of ws) z) (leb slots (slot_of (zones_of ws) 0)) z k t
tests ws (leave z t) = leave_tests (clock_of ws) (joined (zones_of ws) z) t
tests ws (lost z t) = link_tests (clock_of ws) (joined (zones_of ws) z) (zone_of (zones_of ws) z).up false t
tests ws (back z t) = link_tests (clock_of ws) (joined (zones_of ws) z) (zone_of (zones_of ws) z).up true t
tests ws (override r d t) = override_tests (clock_of ws) (settings_of ws).manager r d t
tests ws (clear t) = clear_tests (clock_of ws) (override_of ws) t
tests ws (move t) = move_tests (clock_of ws) t
tests ws (frame z t bytes room) = frame_tests ws z t bytes room
