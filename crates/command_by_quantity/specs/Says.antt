-- A command seen by quantity. Assumes nothing: these are definitions.
use Rattle.std.specs.Prelude.{ℕ, zero, suc, Bool, true, false, cond, ◌||◌, eqb, get_or, None, Some}
use Rattle.wire_messages.specs.declared.Field.{Field}
use Rattle.wire_messages.specs.Options.{Aim}
use Rattle.wire_messages.specs.declared.CurrentLimits.{CurrentLimits}
use Rattle.wire_messages.specs.declared.Command.{Command}
use Rattle.device_store.specs.Sizes.{most}
use Rattle.device_store.specs.declared.Settings.{Settings}
use Rattle.device_store.specs.Quantities.{is_limit, is_setpoint, is_current, direction_of, phase_of}
pub use Rattle.command_fields.specs.Params.{limit_field, target_field, setpoint_field, aim_field, phase_field}
pub use Rattle.command_fields.specs.Durations.{forgotten, setpoint_duration}
pub use Rattle.command_fields.specs.Fields.{negative, natural, field_names, field_negative}
use Rattle.command_by_quantity.specs.declared.said.Kind.{Kind}

-- A COMMAND SEEN BY QUANTITY: what it says of each, beside its kind, aim and duration. All else goes by these and the answers below.
-- "2 direction": the map is of one direction, and says nothing of the other
abbrev pub current_field : CurrentLimits → ℕ → Field
current_field m q = cond (eqb (direction_of q) m.direction) (phase_field m.phases (phase_of q)) Field.Absent

abbrev pub kind_of : Command → Kind
kind_of (Command.SetLimit m) = Kind.Limits
kind_of (Command.ClearLimit a) = Kind.Limits
kind_of (Command.SetSetpoint m) = Kind.Setpoints
kind_of (Command.ClearSetpoint a) = Kind.Setpoints
kind_of (Command.SetCurrentLimits m) = Kind.Currents
kind_of (Command.ClearCurrentLimits a) = Kind.Currents
kind_of (Command.Unserved n) = Kind.Unserved

-- the quantities that a kind is about
abbrev pub is_of : Kind → ℕ → Bool
is_of Kind.Limits q = is_limit q
is_of Kind.Setpoints q = is_setpoint q
is_of Kind.Currents q = is_current q
is_of Kind.Unserved q = false

-- the field of a quantity of the command's kind
abbrev pub field_at : Command → ℕ → Field
field_at (Command.SetLimit m) q = limit_field m (direction_of q)
field_at (Command.ClearLimit a) q = aim_field a (direction_of q)
field_at (Command.SetSetpoint m) q = setpoint_field m (direction_of q)
field_at (Command.ClearSetpoint a) q = aim_field a (direction_of q)
field_at (Command.SetCurrentLimits m) q = current_field m q
field_at (Command.ClearCurrentLimits a) q = aim_field a (direction_of q)
field_at (Command.Unserved n) q = Field.Absent

-- "absent leaves that direction, null removes this zone's limit, a number sets it"; "A phase not in the map is left as it is"; a clear says null
unfoldable pub says : Command → ℕ → Field
says c q = cond (is_of (kind_of c) q) (field_at c q) Field.Absent

abbrev pub is_set : Command → Bool
is_set (Command.SetLimit m) = true
is_set (Command.ClearLimit a) = false
is_set (Command.SetSetpoint m) = true
is_set (Command.ClearSetpoint a) = false
is_set (Command.SetCurrentLimits m) = true
is_set (Command.ClearCurrentLimits a) = false
is_set (Command.Unserved n) = false

-- the direction that a clear or a map of phases names; the other Set commands name directions by their fields alone
abbrev pub aim_of : Command → Aim
aim_of (Command.SetLimit m) = None
aim_of (Command.ClearLimit a) = a
aim_of (Command.SetSetpoint m) = None
aim_of (Command.ClearSetpoint a) = a
aim_of (Command.SetCurrentLimits m) = Some m.direction
aim_of (Command.ClearCurrentLimits a) = a
aim_of (Command.Unserved n) = None

-- a command's duration: an omitted one is 0, and so lasts until replaced, but for a setpoint, where it is 3,600 s
abbrev pub duration_of : Command → ℕ
duration_of (Command.SetLimit m) = m.duration
duration_of (Command.ClearLimit a) = 0
duration_of (Command.SetSetpoint m) = setpoint_duration m.duration
duration_of (Command.ClearSetpoint a) = 0
duration_of (Command.SetCurrentLimits m) = m.duration
duration_of (Command.ClearCurrentLimits a) = 0
duration_of (Command.Unserved n) = 0

-- some quantity below n passes the test p
unfoldable pub some_of : (ℕ → Bool) → ℕ → Bool
some_of p zero = false
some_of p (suc n) = some_of p n || p n

-- the most that quantity q may be: the contractual maximum of a limit; the largest word, which is none, for the others
abbrev pub top_of : Settings → ℕ → ℕ
top_of s q = cond (is_limit q) (get_or s.maxima (direction_of q) 0) most
