-- The parameters of a Set command as one shape, and what SetLimit and SetSetpoint make of it. Assumes nothing: these are definitions.
use Rattle.std.specs.Prelude.{ℕ, cond, eqb, None, Some}
use Rattle.wire_messages.specs.declared.Field.{Field}
use Rattle.wire_messages.specs.Options.{Target}
use Rattle.wire_messages.specs.Options.{Amount}
use Rattle.wire_messages.specs.declared.Limits.{Limits}
use Rattle.wire_messages.specs.declared.Setpoints.{Setpoints}
use Rattle.wire_messages.specs.declared.set_parameters.Setting.{Setting}

-- READ
-- of limits and current limits: an omitted duration and 0 are alike
abbrev pub duration_of : Amount → ℕ
duration_of None = 0
duration_of (Some d) = d

unfoldable pub limits_from : Setting → Limits
limits_from s = record { consumption = s.consumption; production = s.production; duration = duration_of s.duration; cause = s.cause }

abbrev pub target_of : Field → Target
target_of Field.Absent = None
target_of Field.Null = None
target_of (Field.Value z) = Some z

-- "SetSetpoint has the same keys, without null"; L8: "distinguishes omitted from 0", so its duration is kept as it stands
unfoldable pub setpoints_from : Setting → Setpoints
setpoints_from s =
    record { consumption = target_of s.consumption; production = target_of s.production; duration = s.duration; cause = s.cause }

-- WRITTEN
-- "A zero duration is omitted", of limits and current limits
abbrev pub duration_amount : ℕ → Amount
duration_amount d = cond (eqb d 0) None (Some d)

unfoldable pub setting_of_limits : Limits → Setting
setting_of_limits l = record { consumption = l.consumption; production = l.production; duration = duration_amount l.duration; cause = l.cause }

abbrev pub target_field : Target → Field
target_field None = Field.Absent
target_field (Some z) = Field.Value z

-- L8: "for setpoints it must now write the 0": the duration is written as it stands
unfoldable pub setting_of_setpoints : Setpoints → Setting
setting_of_setpoints l =
    record { consumption = target_field l.consumption; production = target_field l.production; duration = l.duration; cause = l.cause }
