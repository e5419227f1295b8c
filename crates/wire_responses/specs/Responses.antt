-- Responses: how one is read from the payload's item for a named command. Assumes nothing: these are definitions.
use Rattle.std.specs.Prelude.{ℕ, cond, List, eqb}
use Rattle.std.proofs.Math.Option.{Option, some, none, bind, map}
use Rattle.wire_cbor.specs.Item.{Item, Pairs, payload_of}
use Rattle.wire_cbor.specs.Find.{value_of}
use Rattle.wire_messages.specs.declared.LimitResult.{LimitResult}
use Rattle.wire_messages.specs.declared.SetpointResult.{SetpointResult}
use Rattle.wire_messages.specs.declared.CurrentResult.{CurrentResult}
use Rattle.wire_messages.specs.declared.Outcome.{Outcome}
use Rattle.wire_messages.specs.declared.Response.{Response}
use Rattle.wire_prefix.specs.Prefix.{framed, payload_in}
use Rattle.wire_fields.specs.Fields.{number_up_to, truth, map_in, needed, most32, most_value, amount_in, success_in}
use Rattle.wire_fields.specs.ByPhase.{currents_in}
use Rattle.wire_messages.specs.Numbers.{served_command}
unfoldable pub use Rattle.wire_messages.specs.Statuses.{is_status, stands}
use Rattle.wire_responses.specs.declared.reading.Answer.{Answer}
use Rattle.refusals.specs.Refusals.{BAD_CBOR, BAD_LENGTH, BAD_MESSAGE, NOT_SERVED}

abbrev pub only_status : ℕ → Option ℕ
only_status n = cond (is_status n) (some n) none

unfoldable pub status_in : Option Item → Option ℕ
status_in o = bind (needed (number_up_to 14) o) only_status

-- "SetLimit {1: applied, 2: control state, 3: consumption limit, 4: production limit, 5: reject reason}"; state and reason at most 4
unfoldable pub limit_result_in : Pairs → Option LimitResult
limit_result_in ps =
    bind (needed truth (value_of ps 1)) (λ a.
    bind (needed (number_up_to 4) (value_of ps 2)) (λ s.
    bind (amount_in most_value (value_of ps 3)) (λ c.
    bind (amount_in most_value (value_of ps 4)) (λ p.
    bind (amount_in 4 (value_of ps 5)) (λ r.
    some (record { applied = a; state = s; consumption = c; production = p; reason = r }))))))

-- "SetSetpoint {1: true, 2, 3: effective setpoints when present}"
unfoldable pub setpoint_result_in : Pairs → Option SetpointResult
setpoint_result_in ps =
    bind (success_in (value_of ps 1)) (λ t.
    bind (amount_in most_value (value_of ps 2)) (λ c.
    bind (amount_in most_value (value_of ps 3)) (λ p.
    some (record { consumption = c; production = p }))))

-- "Command 5 answers {1: true, 2: the effective map for that direction}"
unfoldable pub current_result_in : Pairs → Option CurrentResult
current_result_in ps = bind (success_in (value_of ps 1)) (λ t. currents_in most_value (value_of ps 2))

-- "Clears {1: true}"
abbrev pub clear_result_in : Pairs → Option Outcome
clear_result_in ps = map (λ t. Outcome.Success) (success_in (value_of ps 1))

-- the result of a served command
unfoldable pub outcome_in : ℕ → Pairs → Option Outcome
outcome_in command ps =
    cond (eqb command 1) (map Outcome.Limit (limit_result_in ps))
    (cond (eqb command 3) (map Outcome.Setpoint (setpoint_result_in ps))
    (cond (eqb command 5) (map Outcome.Current (current_result_in ps)) (clear_result_in ps)))

-- "elsewhere key 3 is refused with 3"
abbrev pub no_result : Option Item → Option Outcome
no_result none = some Outcome.Nothing
no_result (some i) = none

unfoldable pub result_in : ℕ → ℕ → Option Item → Option Outcome
result_in command status o = cond (stands command status) (bind (needed map_in o) (outcome_in command)) (no_result o)

-- "Response: {1: message id, 2: status, 3: result}"
unfoldable pub response_in : ℕ → Pairs → Option Response
response_in command ps =
    bind (needed (number_up_to most32) (value_of ps 1)) (λ i.
    bind (status_in (value_of ps 2)) (λ s.
    bind (result_in command s (value_of ps 3)) (λ o.
    some (record { id = i; status = s; outcome = o }))))

abbrev pub answer_of : Option Response → Answer
answer_of (some r) = Answer.Is r
answer_of none = Answer.Refused BAD_MESSAGE

-- 2, then 3
unfoldable pub answer_in : ℕ → Option Item → Answer
answer_in command (some i) = answer_of (bind (map_in i) (response_in command))
answer_in command none = Answer.Refused BAD_CBOR

-- 1, then the payload
unfoldable pub answer_from : ℕ → List ℕ → Answer
answer_from command frame = cond (framed frame) (answer_in command (payload_of (payload_in frame))) (Answer.Refused BAD_LENGTH)

-- "Responses are read for a command that the caller names; an unserved one is 4, tested first"; then 1, 2, 3
unfoldable pub read_response : ℕ → List ℕ → Answer
read_response command frame = cond (served_command command) (answer_from command frame) (Answer.Refused NOT_SERVED)

-- document 01's number for each case
abbrev pub answer_number : Answer → ℕ
answer_number (Answer.Is r) = 0
answer_number (Answer.Refused n) = n
