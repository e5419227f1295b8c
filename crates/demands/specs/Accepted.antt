-- Which calls are accepted, by the history alone: the calls' own tests with the history's answers, and the log that they make.
use Rattle.std.specs.Prelude.{ℕ, ◌≡◌, Bool, true, false, cond, List, [], ◌∷◌, leb, eqb, ℤ, length}
use Rattle.wire_messages.specs.declared.Command.{Command}
use Rattle.wire_messages.specs.declared.Outcome.{Outcome}
use Rattle.wire_messages.specs.declared.Request.{Request}
use Rattle.wire_messages.specs.declared.Response.{Response}
use Rattle.device_store.specs.declared.Settings.{Settings}
use Rattle.device_holds.specs.Holds.{Situation, values_at}
use Rattle.refusals.specs.Refusals.{first_of, NOT_SERVED}
use Rattle.device_calls.specs.Calls.{join_tests, leave_tests, link_tests, override_tests, override_word, clear_tests, move_tests}
use Rattle.device_calls.specs.Commands.{command_tests}
use Rattle.command_effects.specs.Outcomes.{is_capped, outcome_with}
use Rattle.device_rules.specs.Rules.{bad_settings}
use Rattle.device_calls.specs.Start.{refused_settings}
use Rattle.plan.specs.Plan.{plan_tests, plan_of}
use Rattle.wire_requests.specs.Requests.{read_request}
use Rattle.wire_responses.specs.WrittenResponses.{response_item, status_alone}
use Rattle.wire_output.specs.Writing.{item_frame, writing_number}
use Rattle.wire_requests.specs.declared.reading.Reading.{Reading}
use Rattle.demands.specs.Run.{Call, join, leave, lost, back, override, clear, move, frame}
use Rattle.demands.specs.History.{Told, joins, leaves, links, commands, overrides, passes, Entry, Log, clock_by, override_by, joined_by, up_by, zones_by, situation_by}

-- THE NUMBERS: the tests of the device's calls, with the history's answers
unfoldable pub link_number_by : Log → ℕ → Bool → ℕ → ℕ
link_number_by h z u t = first_of (link_tests (clock_by h) (joined_by h z) (up_by h z) u t)

unfoldable pub command_number_by : Settings → Log → ℕ → ℕ → Command → ℕ
command_number_by s h z t c = first_of (command_tests (clock_by h) (joined_by h z) (up_by h z) s (override_by h) t c)

-- the log with one call more where its number is 0
unfoldable pub kept : ℕ → Entry → Log → Log
kept n e h = cond (eqb n 0) (e ∷ h) h

-- a command's result: "Values in a response are those at the call's time, the command's own effect included if accepted"
unfoldable pub outcome_by : Settings → Log → ℕ → ℕ → Command → Outcome
outcome_by s h z t c =
    outcome_with c (command_number_by s h z t c) (is_capped s c)
    (values_at (situation_by s (kept (command_number_by s h z t c) (t, commands z c) h)) t)

unfoldable pub response_by : Settings → Log → ℕ → ℕ → Request → Response
response_by s h z t r = record { id = r.id; status = command_number_by s h z t r.command; outcome = outcome_by s h z t r.command }

-- the response frame: none at 1, 2 and 3; status 4; a status and its result else
unfoldable pub response_frame_by : Settings → Log → ℕ → ℕ → Reading → List ℕ
response_frame_by s h z t (Reading.Refused n) = []
response_frame_by s h z t (Reading.Unserved i) = item_frame (response_item (status_alone i NOT_SERVED))
response_frame_by s h z t (Reading.Is r) = item_frame (response_item (response_by s h z t r))

unfoldable pub number_from_by : Settings → Log → ℕ → ℕ → Reading → ℕ → ℕ
number_from_by s h z t (Reading.Refused n) room = n
number_from_by s h z t (Reading.Unserved i) room = NOT_SERVED
number_from_by s h z t (Reading.Is r) room = writing_number (command_number_by s h z t r.command) (response_frame_by s h z t (Reading.Is r)) room

unfoldable pub number_by : Settings → Log → Call → ℕ
number_by s h (join z k t) = first_of (join_tests (clock_by h) (joined_by h z) (leb 8 (length (zones_by s h))) z k t)
number_by s h (leave z t) = first_of (leave_tests (clock_by h) (joined_by h z) t)
number_by s h (lost z t) = link_number_by h z false t
number_by s h (back z t) = link_number_by h z true t
number_by s h (override r d t) = first_of (override_tests (clock_by h) s.manager r d t)
number_by s h (clear t) = first_of (clear_tests (clock_by h) (override_by h) t)
number_by s h (move t) = first_of (move_tests (clock_by h) t)
number_by s h (frame z t bytes room) = number_from_by s h z t (read_request bytes) room

-- a plan is no call of the history: its rows, and whether they fit, follow from what the history tells at its last time
unfoldable pub rows_by : Settings → Log → List (ℕ × List ℤ)
rows_by s h = plan_of (situation_by s h) (clock_by h)

unfoldable pub plan_number_by : Settings → Log → ℕ → ℕ
plan_number_by s h room = first_of (plan_tests (rows_by s h) room)

-- what a frame tells is its command; one that reads as none is never accepted
unfoldable pub tells : ℕ → Reading → Told
tells z (Reading.Refused n) = passes
tells z (Reading.Unserved i) = passes
tells z (Reading.Is r) = commands z r.command

unfoldable pub entry : Call → Entry
entry (join z k t) = (t, joins z k)
entry (leave z t) = (t, leaves z)
entry (lost z t) = (t, links z false)
entry (back z t) = (t, links z true)
entry (override r d t) = (t, overrides (override_word r d))
entry (clear t) = (t, overrides 0)
entry (move t) = (t, passes)
entry (frame z t bytes room) = (t, tells z (read_request bytes))

-- the accepted calls, from the history alone
unfoldable pub log : Settings → List Call → Log
log s [] = []
log s (c ∷ calls) = kept (number_by s (log s calls) c) (entry c) (log s calls)

-- "A refused start hands back a fresh device" with settings of its own
unfoldable pub started_with : Settings → Settings
started_with s = cond (bad_settings s) refused_settings s

-- maxima and failsafe limits go by direction: two numbers each, as their type in the code has it
pub record InPairs (s : Settings) : Type 0 where
  pub maxima : length s.maxima ≡ 2
  pub failsafe : length s.failsafe ≡ 2

-- the log of calls to a device that was started with s, and the situation that it tells of
abbrev pub history : Settings → List Call → Log
history s calls = log (started_with s) calls

abbrev pub told : Settings → List Call → Situation
told s calls = situation_by (started_with s) (history s calls)
