-- What is read of the heads that are seen in a payload, one equation for each reader. The contracts of private functions cite these. Assumes nothing: these are definitions.
use Rattle.std.specs.Prelude.{ℕ, true, cond, List, eqb, Option, None, Some}
use Rattle.wire_cbor.specs.Scan.{key_head_at}
use Rattle.wire_messages.specs.declared.LimitResult.{LimitResult}
use Rattle.wire_messages.specs.declared.SetpointResult.{SetpointResult}
use Rattle.wire_messages.specs.declared.CurrentResult.{CurrentResult}
use Rattle.wire_messages.specs.declared.Outcome.{Outcome}
use Rattle.wire_messages.specs.declared.Response.{Response}
use Rattle.wire_fields.specs.Fields.{most32, most_value}
use Rattle.wire_fields.specs.KeyHeads.{when_ok, and_then}
use Rattle.wire_fields.specs.Seen.{uint_read, amount_read, truth_read, success_seen, map_seen, amounts_seen}
use Rattle.wire_responses.specs.Responses.{is_status, stands}
use Rattle.wire_responses.specs.declared.reading.Answer.{Answer}
use Rattle.refusals.specs.Refusals.{BAD_MESSAGE}

-- the result of SetLimit
unfoldable pub limit_result_seen : List ℕ → Option LimitResult
limit_result_seen ws =
    and_then (truth_read (key_head_at ws 1 1)) (λ a.
    and_then (uint_read 4 (key_head_at ws 1 2)) (λ s.
    and_then (amount_read most_value (key_head_at ws 1 3)) (λ c.
    and_then (amount_read most_value (key_head_at ws 1 4)) (λ p.
    and_then (amount_read 4 (key_head_at ws 1 5)) (λ r.
    Some (record { applied = a; state = s; consumption = c; production = p; reason = r }))))))

-- that of SetSetpoint
unfoldable pub setpoint_result_seen : List ℕ → Option SetpointResult
setpoint_result_seen ws =
    and_then (when_ok (success_seen (key_head_at ws 1 1)) true) (λ t.
    and_then (amount_read most_value (key_head_at ws 1 2)) (λ c.
    and_then (amount_read most_value (key_head_at ws 1 3)) (λ p.
    Some (record { consumption = c; production = p }))))

-- that of SetCurrentLimits
unfoldable pub current_result_seen : List ℕ → Option CurrentResult
current_result_seen ws =
    and_then (when_ok (success_seen (key_head_at ws 1 1)) true) (λ t.
    amounts_seen most_value (key_head_at ws 1 2) (key_head_at ws 2 0) (key_head_at ws 2 1) (key_head_at ws 2 2))

-- that of a served command
unfoldable pub outcome_seen : List ℕ → ℕ → Option Outcome
outcome_seen ws c =
    cond (eqb c 1) (and_then (limit_result_seen ws) (λ l. Some (Outcome.Limit l)))
    (cond (eqb c 3) (and_then (setpoint_result_seen ws) (λ l. Some (Outcome.Setpoint l)))
    (cond (eqb c 5) (and_then (current_result_seen ws) (λ l. Some (Outcome.Current l))) (when_ok (success_seen (key_head_at ws 1 1)) Outcome.Success)))

-- what stands or does not stand under key 3
unfoldable pub result_seen : List ℕ → ℕ → ℕ → Option Outcome
result_seen ws c status =
    cond (stands c status) (cond (map_seen (key_head_at ws 0 3)) (outcome_seen ws c) None) (when_ok (eqb (key_head_at ws 0 3).major 8) Outcome.Nothing)

unfoldable pub status_seen : List ℕ → Option ℕ
status_seen ws = and_then (uint_read 14 (key_head_at ws 0 2)) (λ s. when_ok (is_status s) s)

-- the response
unfoldable pub response_seen : List ℕ → ℕ → Option Response
response_seen ws c =
    and_then (uint_read most32 (key_head_at ws 0 1)) (λ i.
    and_then (status_seen ws) (λ s.
    and_then (result_seen ws c s) (λ o.
    Some (record { id = i; status = s; outcome = o }))))

-- it, or refusal 3
abbrev pub answer_seen : Option Response → Answer
answer_seen (Some r) = Answer.Is r
answer_seen None = Answer.Refused BAD_MESSAGE
