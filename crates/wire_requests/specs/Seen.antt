-- What is read of the heads that are seen in a payload, one equation for each reader. The contracts of private functions cite these. Assumes nothing: these are definitions.
use Rattle.std.specs.Prelude.{ℕ, Bool, true, false, cond, ◌&&◌, List, eqb, Option, None, Some}
use Rattle.wire_cbor.specs.Scan.{key_head_at}
use Rattle.wire_messages.specs.Numbers.{served_at, served_command}
use Rattle.wire_messages.specs.declared.set_parameters.Setting.{Setting}
use Rattle.wire_messages.specs.declared.CurrentLimits.{CurrentLimits}
use Rattle.wire_messages.specs.declared.Command.{Command}
use Rattle.wire_fields.specs.Fields.{most32}
use Rattle.wire_fields.specs.KeyHeads.{and_then}
use Rattle.wire_fields.specs.Seen.{uint_seen, uint_read, amount_read, map_seen, value_seen, fields_seen}
use Rattle.wire_requests.specs.Settings.{duration_of, limits_from, setpoints_from}
use Rattle.wire_requests.specs.KeyHeads.{clear_of}
use Rattle.wire_requests.specs.declared.reading.Reading.{Reading}
use Rattle.refusals.specs.Refusals.{BAD_MESSAGE}

-- the envelope is there: the parameters are a map, seen below
unfoldable pub envelope_seen : List ℕ → Bool
envelope_seen ws =
    uint_seen true most32 (key_head_at ws 0 1)
    && (uint_seen true 255 (key_head_at ws 0 2) && (uint_seen true 65535 (key_head_at ws 0 3) && (uint_seen true 65535 (key_head_at ws 0 4) && map_seen (key_head_at ws 0 5))))

-- the parameters of a Set command, with null or without
unfoldable pub setting_seen : Bool → List ℕ → Option Setting
setting_seen null ws =
    and_then (value_seen null (key_head_at ws 1 1)) (λ c.
    and_then (value_seen null (key_head_at ws 1 2)) (λ p.
    and_then (amount_read most32 (key_head_at ws 1 3)) (λ d.
    and_then (uint_read 255 (key_head_at ws 1 4)) (λ k.
    Some (record { consumption = c; production = p; duration = d; cause = k })))))

-- those of SetCurrentLimits
unfoldable pub current_limits_seen : List ℕ → Option CurrentLimits
current_limits_seen ws =
    and_then (fields_seen true (key_head_at ws 1 1) (key_head_at ws 2 0) (key_head_at ws 2 1) (key_head_at ws 2 2)) (λ f.
    and_then (uint_read 1 (key_head_at ws 1 2)) (λ x.
    and_then (amount_read most32 (key_head_at ws 1 3)) (λ d.
    and_then (uint_read 255 (key_head_at ws 1 4)) (λ k.
    Some (record { phases = f; direction = x; duration = duration_of d; cause = k })))))

-- those of a clear
unfoldable pub clear_seen : List ℕ → ℕ → Option Command
clear_seen ws c = and_then (amount_read 1 (key_head_at ws 1 1)) (λ a. Some (clear_of c a))

-- those of a served command
unfoldable pub command_seen : List ℕ → ℕ → Option Command
command_seen ws c =
    cond (eqb c 1) (and_then (setting_seen true ws) (λ s. Some (Command.SetLimit (limits_from s))))
    (cond (eqb c 3) (and_then (setting_seen false ws) (λ s. Some (Command.SetSetpoint (setpoints_from s))))
    (cond (eqb c 5) (and_then (current_limits_seen ws) (λ l. Some (Command.SetCurrentLimits l)))
    (clear_seen ws c)))

-- the request of a command that was read, or refusal 3
abbrev pub request_seen : List ℕ → Option Command → Reading
request_seen ws (Some c) = Reading.Is (record { id = (key_head_at ws 0 1).arg; endpoint = (key_head_at ws 0 2).arg; feature = (key_head_at ws 0 3).arg; command = c })
request_seen ws None = Reading.Refused BAD_MESSAGE

-- the envelope 3, 4, the parameters 3
unfoldable pub message_seen : List ℕ → Reading
message_seen ws =
    cond (envelope_seen ws)
    (cond (served_at (key_head_at ws 0 2).arg (key_head_at ws 0 3).arg && served_command (key_head_at ws 0 4).arg)
    (request_seen ws (command_seen ws (key_head_at ws 0 4).arg))
    (Reading.Unserved (key_head_at ws 0 1).arg))
    (Reading.Refused BAD_MESSAGE)
