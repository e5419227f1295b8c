-- What the readers make of a payload, told by what is seen under its small keys. What Seen's readers answer is proved to be so. Assumes nothing: these are definitions.
use Rattle.std.specs.Prelude
use Rattle.std.specs.Prelude.{ℕ, ◌+◌, ◌*◌, ◌≡◌, Bool, cond, List, eqb, None, Some}
use Rattle.std.proofs.Math.Option.{Option, some, none, map}
use Rattle.wire_cbor.specs.Item.{Pairs}
use Rattle.wire_cbor.specs.Find.{value_of}
use Rattle.wire_cbor.specs.Scan.{STEP, pairs_in, map_at, key_head_at}
use Rattle.wire_messages.specs.Options.{Aim}
use Rattle.wire_messages.specs.declared.Command.{Command}
use Rattle.wire_messages.specs.declared.CurrentLimits.{CurrentLimits}
use Rattle.wire_fields.specs.Fields.{aim_in}
use Rattle.wire_fields.specs.KeyHeads.{found, given, Shown}
use Rattle.wire_requests.specs.Settings.{current_limits_in}
use Rattle.wire_requests.specs.Requests.{Envelope, envelope_in, command_in, from_envelope}
use Rattle.wire_requests.specs.declared.reading.Reading.{Reading}

-- the parameters of a request stand at the first level below the payload, under key 5, and its phases at the second, under key 1
abbrev pub parameters_path : ℕ
parameters_path = 5 + 1 * STEP

abbrev pub envelope_of : List ℕ → Pairs → Envelope
envelope_of ws m =
    record { id = (key_head_at ws 0 1).arg; endpoint = (key_head_at ws 0 2).arg; feature = (key_head_at ws 0 3).arg; command = (key_head_at ws 0 4).arg; parameters = m }

unfoldable pub EnvelopeReads : List ℕ → Bool → Type 0
EnvelopeReads ws ok = (path : ℕ) (ps : Pairs) → Shown ws path ps → envelope_in ps ≡ found ok (envelope_of ws (pairs_in (value_of ps 5)))

abbrev pub parameters_from : Option Command → Prelude.Option Command
parameters_from (some c) = Some c
parameters_from none = None

unfoldable pub CommandReads : List ℕ → ℕ → Prelude.Option Command → Type 0
CommandReads ws c r = (ps : Pairs) → Shown ws parameters_path ps → r ≡ parameters_from (command_in c (map_at 1 parameters_path ps))

-- the same for SetCurrentLimits
unfoldable pub CurrentLimitsRead : List ℕ → Prelude.Option CurrentLimits → Type 0
CurrentLimitsRead ws r = (ps : Pairs) → Shown ws parameters_path ps → current_limits_in (map_at 1 parameters_path ps) ≡ given r

-- which clear a number is: 2, 4, or any other
abbrev pub clear_of : ℕ → Aim → Command
clear_of c = cond (eqb c 2) Command.ClearLimit (cond (eqb c 4) Command.ClearSetpoint Command.ClearCurrentLimits)

-- the same for a clear
unfoldable pub ClearReads : List ℕ → ℕ → Prelude.Option Command → Type 0
ClearReads ws c r =
    (path : ℕ) (ps : Pairs) → Shown ws path ps → r ≡ parameters_from (map (clear_of c) (aim_in (value_of (map_at 1 path ps) 1)))

unfoldable pub MessageReads : List ℕ → Reading → Type 0
MessageReads ws r = (ps : Pairs) → Shown ws parameters_path ps → r ≡ from_envelope (envelope_in ps)
