-- Requests: how one is read from the payload's item. Assumes nothing: these are definitions.
use Rattle.std.specs.Prelude.{ℕ, true, false, cond, ◌&&◌, List, eqb}
use Rattle.std.proofs.Math.Option.{Option, some, none, bind, map}
use Rattle.wire_cbor.specs.Item.{Item, Pairs, payload_of}
use Rattle.wire_cbor.specs.Find.{value_of}
use Rattle.wire_messages.specs.Numbers.{served_at, served_command}
use Rattle.wire_messages.specs.declared.Command.{Command}
use Rattle.wire_prefix.specs.Prefix.{framed, payload_in}
use Rattle.wire_fields.specs.Fields.{number_up_to, map_in, needed, most32, aim_in}
use Rattle.wire_requests.specs.Settings.{setting_in, limits_from, setpoints_from, current_limits_in}
use Rattle.wire_requests.specs.declared.reading.Reading.{Reading}
use Rattle.refusals.specs.Refusals.{BAD_CBOR, BAD_LENGTH, BAD_MESSAGE, NOT_SERVED}

-- "{1: message id, 32 bits, 2: endpoint, 3: feature, 4: command, 5: parameters}"
pub record Envelope : Type 0 where
  pub id : ℕ
  pub endpoint : ℕ
  pub feature : ℕ
  pub command : ℕ
  pub parameters : Pairs

-- "Endpoint is 0 to 255; feature and command are 0 to 65,535. Key 5 is always a map, perhaps empty; that much is tested with the envelope"
unfoldable pub envelope_in : Pairs → Option Envelope
envelope_in ps =
    bind (needed (number_up_to most32) (value_of ps 1)) (λ i.
    bind (needed (number_up_to 255) (value_of ps 2)) (λ e.
    bind (needed (number_up_to 65535) (value_of ps 3)) (λ f.
    bind (needed (number_up_to 65535) (value_of ps 4)) (λ c.
    bind (needed map_in (value_of ps 5)) (λ m.
    some (record { id = i; endpoint = e; feature = f; command = c; parameters = m }))))))

-- a served command's parameters
unfoldable pub command_in : ℕ → Pairs → Option Command
command_in c ps =
    cond (eqb c 1) (map (λ s. Command.SetLimit (limits_from s)) (setting_in true ps))
    (cond (eqb c 2) (map Command.ClearLimit (aim_in (value_of ps 1)))
    (cond (eqb c 3) (map (λ s. Command.SetSetpoint (setpoints_from s)) (setting_in false ps))
    (cond (eqb c 4) (map Command.ClearSetpoint (aim_in (value_of ps 1)))
    (cond (eqb c 5) (map Command.SetCurrentLimits (current_limits_in ps))
    (map Command.ClearCurrentLimits (aim_in (value_of ps 1)))))))

abbrev pub with_command : Envelope → Option Command → Reading
with_command e (some c) = Reading.Is (record { id = e.id; endpoint = e.endpoint; feature = e.feature; command = c })
with_command e none = Reading.Refused BAD_MESSAGE

-- 4, then 3 for the parameters
unfoldable pub from_envelope : Option Envelope → Reading
from_envelope (some e) =
    cond (served_at e.endpoint e.feature && served_command e.command)
    (with_command e (command_in e.command e.parameters))
    (Reading.Unserved e.id)
from_envelope none = Reading.Refused BAD_MESSAGE

-- 2, then 3 for what is no map and for the envelope
unfoldable pub from_payload : Option Item → Reading
from_payload (some i) = from_envelope (bind (map_in i) envelope_in)
from_payload none = Reading.Refused BAD_CBOR

-- "Order, for a frame: 1, 2, envelope 3, 4, parameters 3"
unfoldable pub read_request : List ℕ → Reading
read_request frame = cond (framed frame) (from_payload (payload_of (payload_in frame))) (Reading.Refused BAD_LENGTH)

-- document 01's number for each case
abbrev pub reading_number : Reading → ℕ
reading_number (Reading.Is r) = 0
reading_number (Reading.Unserved i) = NOT_SERVED
reading_number (Reading.Refused n) = n
