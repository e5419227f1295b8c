-- Document 01's numbers for the cases of the messages' types.
use Rattle.std.specs.Prelude.{ℕ, Bool, ◌&&◌, leb, eqb}
use Rattle.wire_messages.specs.declared.Command.{Command}
use Rattle.wire_messages.specs.declared.Command.TheVariants.{SetLimit, ClearLimit, SetSetpoint, ClearSetpoint, SetCurrentLimits, ClearCurrentLimits, Unserved}

-- "SetLimit, ClearLimit, SetSetpoint, ClearSetpoint (commands 1 to 4)", and L5: "commands 5 and 6 ..: SetCurrentLimits and ClearCurrentLimits"
abbrev pub SET_LIMIT : ℕ
SET_LIMIT = 1

abbrev pub CLEAR_LIMIT : ℕ
CLEAR_LIMIT = 2

abbrev pub SET_SETPOINT : ℕ
SET_SETPOINT = 3

abbrev pub CLEAR_SETPOINT : ℕ
CLEAR_SETPOINT = 4

abbrev pub SET_CURRENT_LIMITS : ℕ
SET_CURRENT_LIMITS = 5

abbrev pub CLEAR_CURRENT_LIMITS : ℕ
CLEAR_CURRENT_LIMITS = 6

abbrev pub wire_number : Command → ℕ
wire_number (SetLimit m) = SET_LIMIT
wire_number (ClearLimit a) = CLEAR_LIMIT
wire_number (SetSetpoint m) = SET_SETPOINT
wire_number (ClearSetpoint a) = CLEAR_SETPOINT
wire_number (SetCurrentLimits m) = SET_CURRENT_LIMITS
wire_number (ClearCurrentLimits a) = CLEAR_CURRENT_LIMITS
wire_number (Unserved n) = n

-- "One energy endpoint, number 1, feature 0x0005"
abbrev pub ENDPOINT : ℕ
ENDPOINT = 1

abbrev pub FEATURE : ℕ
FEATURE = 5

unfoldable pub served_at : ℕ → ℕ → Bool
served_at endpoint feature = eqb endpoint ENDPOINT && eqb feature FEATURE

-- "commands 1 to 6"
abbrev pub commands : ℕ
commands = CLEAR_CURRENT_LIMITS

unfoldable pub served_command : ℕ → Bool
served_command c = leb 1 c && leb c commands
