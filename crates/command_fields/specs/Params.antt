-- The fields of a command, by direction or phase. Assumes nothing: these are definitions.
use Rattle.std.specs.Prelude.{ℕ, cond, eqb, None, Some}
use Rattle.wire_messages.specs.declared.Field.{Field}
pub use Rattle.wire_messages.specs.Shapes.{target_field}
use Rattle.wire_messages.specs.Options.{Aim}
use Rattle.wire_messages.specs.declared.Limits.{Limits}
use Rattle.wire_messages.specs.declared.Setpoints.{Setpoints}
use Rattle.wire_messages.specs.declared.Phases.{Phases}

abbrev pub limit_field : Limits → ℕ → Field
limit_field m d = cond (eqb d 0) m.consumption m.production

-- a setpoint's field has no null
abbrev pub setpoint_field : Setpoints → ℕ → Field
setpoint_field m d = cond (eqb d 0) (target_field m.consumption) (target_field m.production)

-- "without one they clear both"
abbrev pub aim_field : Aim → ℕ → Field
aim_field None d = Field.Null
aim_field (Some e) d = cond (eqb e d) Field.Null Field.Absent

-- "a map of phase (A 0, B 1, C 2) to mA or null"
abbrev pub phase_field : Phases → ℕ → Field
phase_field m p = cond (eqb p 0) m.a (cond (eqb p 1) m.b m.c)
