-- The quantities that a zone can set, by index. How many there are is said here alone.
use Rattle.std.specs.Prelude.{ℕ, ◌+◌, ◌*◌, ◌-◌, ◌/◌, ◌%◌, Bool, cond, ◌&&◌, ◌||◌, ltb, leb, eqb}

-- the power limits of consumption and production, their setpoints, "a map of phase (A 0, B 1, C 2)"
abbrev pub limits : ℕ
limits = 2

abbrev pub setpoints : ℕ
setpoints = 2

abbrev pub phases : ℕ
phases = 3

-- "phase by phase, consumption first": the current limits stand behind the others
abbrev pub currents : ℕ
currents = limits + setpoints

abbrev pub helds : ℕ
helds = currents + 2 * phases

abbrev pub is_limit : ℕ → Bool
is_limit q = ltb q limits

abbrev pub is_setpoint : ℕ → Bool
is_setpoint q = leb limits q && ltb q currents

abbrev pub is_current : ℕ → Bool
is_current q = leb currents q

-- consumption 0, production 1
abbrev pub direction_of : ℕ → ℕ
direction_of q = q % 2

-- the phase of a current limit, and the current limit of a phase and a direction
abbrev pub phase_of : ℕ → ℕ
phase_of q = (q - currents) / 2

abbrev pub current_at : ℕ → ℕ → ℕ
current_at p d = currents + 2 * p + d

-- how many go by the smallest value, and how many by the precedence; the k-th of each
abbrev pub lowest_values : ℕ
lowest_values = helds - setpoints

abbrev pub leading_setpoints : ℕ
leading_setpoints = setpoints

unfoldable pub low_at : ℕ → ℕ
low_at k = cond (ltb k limits) k (k + setpoints)

abbrev pub lead_at : ℕ → ℕ
lead_at k = limits + k

-- "supported directions (consumption 0, production 1, both 2)"
unfoldable pub supports : ℕ → ℕ → Bool
supports has d = ltb d 2 && (eqb has 2 || eqb has d)
