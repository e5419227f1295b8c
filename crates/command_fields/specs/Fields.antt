-- What one field of a command says, and what one number of its answer is. Assumes nothing: these are definitions.
use Rattle.std.specs.Prelude.{ℕ, Bool, true, false, cond, ◌&&◌, ltb, eqb, ℤ, pos, negsuc, None, Some}
use Rattle.refusals.specs.Reasons.{below_minimum, above_contractual, invalid_value, override_set, not_supported}
use Rattle.wire_messages.specs.declared.Field.{Field}
use Rattle.wire_messages.specs.Options.{Amount}
use Rattle.refusals.specs.Refusals.{NOT_SUPPORTED, OVERRIDDEN, BAD_VALUE, BELOW_MINIMUM}

-- WHAT A FIELD SAYS
abbrev pub negative : ℤ → Bool
negative (pos n) = false
negative (negsuc n) = true

abbrev pub natural : ℤ → ℕ
natural (pos n) = n
natural (negsuc n) = 0

-- "null names it too"
abbrev pub field_names : Field → Bool
field_names Field.Absent = false
field_names Field.Null = true
field_names (Field.Value v) = true

abbrev pub field_negative : Field → Bool
field_negative Field.Absent = false
field_negative Field.Null = false
field_negative (Field.Value v) = negative v

-- 14: the rule for a single value. 0 means off, and is never too low
unfoldable pub too_low : ℕ → ℕ → Bool
too_low minimum v = ltb 0 v && ltb v minimum

abbrev pub field_too_low : ℕ → Field → Bool
field_too_low minimum Field.Absent = false
field_too_low minimum Field.Null = false
field_too_low minimum (Field.Value v) = too_low minimum (natural v)

-- a number above the most that it may be
abbrev pub field_above : ℕ → Field → Bool
field_above top Field.Absent = false
field_above top Field.Null = false
field_above top (Field.Value v) = ltb top (natural v)

-- WHAT IS ANSWERED
-- "below minimum 0 (status 14), above contractual 1 (status 0), invalid 2 (13), override 3 (12), not supported 4 (11)"
unfoldable pub reason_of : ℕ → Bool → Amount
reason_of n capped =
    cond (eqb n NOT_SUPPORTED) (Some not_supported)
    (cond (eqb n OVERRIDDEN) (Some override_set)
    (cond (eqb n BAD_VALUE) (Some invalid_value)
    (cond (eqb n BELOW_MINIMUM) (Some below_minimum)
    (cond (eqb n 0 && capped) (Some above_contractual) None))))

-- a value as a response has it: left out when absent
abbrev pub stated : ℤ → Amount
stated (pos v) = Some v
stated (negsuc n) = None
