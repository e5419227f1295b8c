-- Responses as C has them, flat, and as the kernel has them: each from the other. Absent is -1.
use Rattle.std.specs.Prelude.{ℕ, Bool, true, false, cond, not, ◌||◌, List, [], ◌∷◌, eqb, ℤ, pos, negsuc, get_or, None}
use Rattle.wire_messages.specs.Options.{Amount}
use Rattle.wire_messages.specs.declared.LimitResult.{LimitResult}
use Rattle.wire_messages.specs.declared.SetpointResult.{SetpointResult}
use Rattle.wire_messages.specs.declared.CurrentResult.{CurrentResult}
use Rattle.wire_messages.specs.declared.Outcome.{Outcome}
use Rattle.wire_messages.specs.declared.Response.{Response}
use Rattle.capi_fields.specs.Amounts.{amount_of, flat_amount}
use Rattle.capi_fields.specs.Words.{at, yes, word}
use Rattle.capi_messages.specs.declared.flat_responses.FlatResponse.{FlatResponse}

-- FROM C
unfoldable pub limit_of : FlatResponse → LimitResult
limit_of p =
    record {
      applied = p.applied;
      state = p.state;
      consumption = amount_of p.consumption;
      production = amount_of p.production;
      reason = amount_of p.reason;
    }

unfoldable pub setpoint_of : FlatResponse → SetpointResult
setpoint_of p = record { consumption = amount_of p.consumption; production = amount_of p.production }

unfoldable pub current_of : FlatResponse → CurrentResult
current_of p = record { a = amount_of p.a; b = amount_of p.b; c = amount_of p.c }

-- a result with applied false is SetLimit's: beside another command it is refused with 3
unfoldable pub outcome_of : ℕ → FlatResponse → Outcome
outcome_of command p =
    cond p.result
    (cond (eqb command 1 || not p.applied) (Outcome.Limit (limit_of p))
    (cond (eqb command 3) (Outcome.Setpoint (setpoint_of p))
    (cond (eqb command 5) (Outcome.Current (current_of p)) Outcome.Success)))
    Outcome.Nothing

unfoldable pub response_of : ℕ → FlatResponse → Response
response_of command p = record { id = p.id; status = p.status; outcome = outcome_of command p }

-- TO C: these parts and no current
unfoldable pub flat : Response → Bool → Bool → ℕ → Amount → Amount → Amount → FlatResponse
flat r result applied state x y why =
    record {
      id = r.id;
      status = r.status;
      result = result;
      applied = applied;
      state = state;
      consumption = flat_amount x;
      production = flat_amount y;
      reason = flat_amount why;
      a = negsuc 0;
      b = negsuc 0;
      c = negsuc 0;
    }

-- the currents of a direction, by phase
unfoldable pub flat_current : Response → CurrentResult → FlatResponse
flat_current r l =
    record {
      id = r.id;
      status = r.status;
      result = true;
      applied = true;
      state = 0;
      consumption = negsuc 0;
      production = negsuc 0;
      reason = negsuc 0;
      a = flat_amount l.a;
      b = flat_amount l.b;
      c = flat_amount l.c;
    }

unfoldable pub flat_response : Response → Outcome → FlatResponse
flat_response r Outcome.Nothing = flat r false false 0 None None None
flat_response r (Outcome.Limit l) = flat r true l.applied l.state l.consumption l.production l.reason
flat_response r (Outcome.Setpoint l) = flat r true true 0 l.consumption l.production None
flat_response r (Outcome.Current l) = flat_current r l
flat_response r Outcome.Success = flat r true true 0 None None None

-- AS WORDS: id, status, result, applied, state; consumption, production, reason and the phases' currents beside them
unfoldable pub response_in : List ℕ → List ℤ → FlatResponse
response_in ws vs =
    record {
      id = at ws 0;
      status = at ws 1;
      result = yes ws 2;
      applied = yes ws 3;
      state = at ws 4;
      consumption = get_or vs 0 (pos 0);
      production = get_or vs 1 (pos 0);
      reason = get_or vs 2 (pos 0);
      a = get_or vs 3 (pos 0);
      b = get_or vs 4 (pos 0);
      c = get_or vs 5 (pos 0);
    }

unfoldable pub response_words : FlatResponse → List ℕ
response_words p = p.id ∷ p.status ∷ word p.result ∷ word p.applied ∷ p.state ∷ []

unfoldable pub response_values : FlatResponse → List ℤ
response_values p = p.consumption ∷ p.production ∷ p.reason ∷ p.a ∷ p.b ∷ p.c ∷ []
