-- The parts of a request as C has them, and as the kernel has them: each from the other.
use Rattle.std.specs.Prelude.{ℕ, Bool, true, false, cond, ◌&&◌, ◌||◌, ltb, eqb, pos, None, Some}
use Rattle.wire_messages.specs.declared.Field.{Field}
use Rattle.wire_messages.specs.Options.{Target}
use Rattle.wire_messages.specs.Options.{Aim}
use Rattle.wire_messages.specs.Options.{Amount}
use Rattle.capi_fields.specs.declared.fields.FlatField.{FlatField}

-- FROM C. A field's kind: 0 absent, 1 null, 2 a number
unfoldable pub field_of : FlatField → Field
field_of f = cond (eqb f.kind 1) Field.Null (cond (eqb f.kind 2) (Field.Value f.value) Field.Absent)

unfoldable pub target_of : FlatField → Target
target_of f = cond (eqb f.kind 2) (Some f.value) None

unfoldable pub aim_of : Bool → ℕ → Aim
aim_of has d = cond has (Some d) None

-- L8: "for setpoints it must now write the 0"; the flag asks for the omission, beside a duration of 0 alone
unfoldable pub setpoint_time : Bool → ℕ → Amount
setpoint_time omitted d = cond (omitted && eqb d 0) None (Some d)

-- a kind that SetLimit has, and a phase of SetCurrentLimits; SetSetpoint has no null
unfoldable pub limit_kind : ℕ → Bool
limit_kind k = ltb k 3

unfoldable pub setpoint_kind : ℕ → Bool
setpoint_kind k = eqb k 0 || eqb k 2

-- TO C
abbrev pub no_field : FlatField
no_field = record { kind = 0; value = pos 0 }

unfoldable pub flat_field : Field → FlatField
flat_field Field.Absent = no_field
flat_field Field.Null = record { kind = 1; value = pos 0 }
flat_field (Field.Value v) = record { kind = 2; value = v }

unfoldable pub flat_target : Target → FlatField
flat_target None = no_field
flat_target (Some v) = record { kind = 2; value = v }

abbrev pub has_aim : Aim → Bool
has_aim None = false
has_aim (Some d) = true

abbrev pub aimed : Aim → ℕ
aimed None = 0
aimed (Some d) = d

-- a setpoint's duration as a number, and whether it was omitted
abbrev pub time_of : Amount → ℕ
time_of None = 0
time_of (Some d) = d

abbrev pub is_omitted : Amount → Bool
is_omitted None = true
is_omitted (Some d) = false
