-- Requests as C has them, flat, and as the kernel has them: each from the other.
use Rattle.std.specs.Prelude.{ℕ, Bool, false, cond, ◌&&◌, List, [], ◌∷◌, eqb, ℤ, pos, get_or, None}
use Rattle.wire_messages.specs.Options.{Aim}
use Rattle.wire_messages.specs.declared.Limits.{Limits}
use Rattle.wire_messages.specs.declared.Setpoints.{Setpoints}
use Rattle.wire_messages.specs.declared.Phases.{Phases}
use Rattle.wire_messages.specs.declared.CurrentLimits.{CurrentLimits}
use Rattle.wire_messages.specs.declared.Command.{Command}
use Rattle.wire_messages.specs.declared.Request.{Request}
use Rattle.capi_fields.specs.Words.{at, yes, word}
use Rattle.capi_fields.specs.Fields.{field_of, target_of, aim_of, setpoint_time, limit_kind, setpoint_kind, no_field, flat_field, flat_target, has_aim, aimed, time_of, is_omitted}
use Rattle.capi_fields.specs.declared.fields.FlatField.{FlatField}
use Rattle.capi_messages.specs.declared.flat_requests.FlatRequest.{FlatRequest}

-- FROM C
unfoldable pub limits_of : FlatRequest → Limits
limits_of q = record { consumption = field_of q.consumption; production = field_of q.production; duration = q.duration; cause = q.cause }

unfoldable pub setpoints_of : FlatRequest → Setpoints
setpoints_of q =
    record {
      consumption = target_of q.consumption;
      production = target_of q.production;
      duration = setpoint_time q.omitted q.duration;
      cause = q.cause;
    }

unfoldable pub phases_of : FlatRequest → Phases
phases_of q = record { a = field_of q.a; b = field_of q.b; c = field_of q.c }

unfoldable pub currents_of : FlatRequest → CurrentLimits
currents_of q = record { phases = phases_of q; direction = q.direction; duration = q.duration; cause = q.cause }

-- no wire holds this command: it stands for a kind that its command does not have, and is refused with 3
abbrev pub no_command : Command
no_command = Command.Unserved 65536

unfoldable pub current_command : FlatRequest → Command
current_command q =
    cond (limit_kind q.a.kind && (limit_kind q.b.kind && limit_kind q.c.kind)) (Command.SetCurrentLimits (currents_of q)) no_command

unfoldable pub command_of : FlatRequest → Command
command_of q =
    cond (eqb q.command 1) (cond (limit_kind q.consumption.kind && limit_kind q.production.kind) (Command.SetLimit (limits_of q)) no_command)
    (cond (eqb q.command 2) (Command.ClearLimit (aim_of q.directed q.direction))
    (cond (eqb q.command 3) (cond (setpoint_kind q.consumption.kind && setpoint_kind q.production.kind) (Command.SetSetpoint (setpoints_of q)) no_command)
    (cond (eqb q.command 4) (Command.ClearSetpoint (aim_of q.directed q.direction))
    (cond (eqb q.command 5) (current_command q)
    (cond (eqb q.command 6) (Command.ClearCurrentLimits (aim_of q.directed q.direction)) (Command.Unserved q.command))))))

unfoldable pub request_of : FlatRequest → Request
request_of q = record { id = q.id; endpoint = q.endpoint; feature = q.feature; command = command_of q }

-- TO C
-- SetLimit or SetSetpoint, by its number, fields, duration, whether it is omitted, and cause
unfoldable pub flat_set : Request → ℕ → FlatField → FlatField → ℕ → Bool → ℕ → FlatRequest
flat_set r n f g d o k =
    record {
      id = r.id;
      endpoint = r.endpoint;
      feature = r.feature;
      command = n;
      consumption = f;
      production = g;
      duration = d;
      cause = k;
      directed = false;
      direction = 0;
      a = no_field;
      b = no_field;
      c = no_field;
      omitted = o;
    }

-- SetCurrentLimits, with a field for each phase
unfoldable pub flat_currents : Request → CurrentLimits → Phases → FlatRequest
flat_currents r m f =
    record {
      id = r.id;
      endpoint = r.endpoint;
      feature = r.feature;
      command = 5;
      consumption = no_field;
      production = no_field;
      duration = m.duration;
      cause = m.cause;
      directed = false;
      direction = m.direction;
      a = flat_field f.a;
      b = flat_field f.b;
      c = flat_field f.c;
      omitted = false;
    }

-- a clear, by its number and what it names
unfoldable pub flat_clear : Request → ℕ → Aim → FlatRequest
flat_clear r n x =
    record {
      id = r.id;
      endpoint = r.endpoint;
      feature = r.feature;
      command = n;
      consumption = no_field;
      production = no_field;
      duration = 0;
      cause = 0;
      directed = has_aim x;
      direction = aimed x;
      a = no_field;
      b = no_field;
      c = no_field;
      omitted = false;
    }

unfoldable pub flat_request : Request → Command → FlatRequest
flat_request r (Command.SetLimit m) = flat_set r 1 (flat_field m.consumption) (flat_field m.production) m.duration false m.cause
flat_request r (Command.ClearLimit a) = flat_clear r 2 a
flat_request r (Command.SetSetpoint m) =
    flat_set r 3 (flat_target m.consumption) (flat_target m.production) (time_of m.duration) (is_omitted m.duration) m.cause
flat_request r (Command.ClearSetpoint a) = flat_clear r 4 a
flat_request r (Command.SetCurrentLimits m) = flat_currents r m m.phases
flat_request r (Command.ClearCurrentLimits a) = flat_clear r 6 a
flat_request r (Command.Unserved n) = flat_clear r n None

-- AS WORDS: id, endpoint, feature, command, the fields' kinds, duration, cause, directed, direction, the phases' kinds, omitted; the fields'
-- and the phases' values beside them
unfoldable pub request_in : List ℕ → List ℤ → FlatRequest
request_in ws vs =
    record {
      id = at ws 0;
      endpoint = at ws 1;
      feature = at ws 2;
      command = at ws 3;
      consumption = record { kind = at ws 4; value = get_or vs 0 (pos 0) };
      production = record { kind = at ws 5; value = get_or vs 1 (pos 0) };
      duration = at ws 6;
      cause = at ws 7;
      directed = yes ws 8;
      direction = at ws 9;
      a = record { kind = at ws 10; value = get_or vs 2 (pos 0) };
      b = record { kind = at ws 11; value = get_or vs 3 (pos 0) };
      c = record { kind = at ws 12; value = get_or vs 4 (pos 0) };
      omitted = yes ws 13;
    }

unfoldable pub request_words : FlatRequest → List ℕ
request_words q =
    q.id ∷ q.endpoint ∷ q.feature ∷ q.command ∷ q.consumption.kind ∷ q.production.kind ∷ q.duration ∷ q.cause
    ∷ word q.directed ∷ q.direction ∷ q.a.kind ∷ q.b.kind ∷ q.c.kind ∷ word q.omitted ∷ []

unfoldable pub request_values : FlatRequest → List ℤ
request_values q = q.consumption.value ∷ q.production.value ∷ q.a.value ∷ q.b.value ∷ q.c.value ∷ []
