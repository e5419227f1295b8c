-- How long a value holds. Assumes nothing: these are definitions.
use Rattle.std.specs.Prelude.{ℕ, ◌+◌, min, cond, eqb, None, Some}
use Rattle.wire_messages.specs.Options.{Amount}
use Rattle.device_store.specs.Sizes.{most}

-- "A value set at second n with duration d > 0 holds while t < n + d; duration 0 or omitted holds until replaced or cleared"
unfoldable pub until_of : ℕ → ℕ → ℕ
until_of n d = cond (eqb d 0) most (min (n + d) most)

-- L8: "An omitted duration in SetSetpoint shall mean 3,600 s. An explicit 0 still means until replaced"
abbrev pub forgotten : ℕ
forgotten = 3600

abbrev pub setpoint_duration : Amount → ℕ
setpoint_duration None = forgotten
setpoint_duration (Some d) = d
