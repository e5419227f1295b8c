-- One test, tried on what a command says of each quantity. Assumes nothing: these are definitions.
use Rattle.std.specs.Prelude.{ℕ, Bool, not, ◌&&◌, leb}
use Rattle.wire_messages.specs.declared.Field.{Field}
use Rattle.wire_messages.specs.declared.Command.{Command}
use Rattle.device_store.specs.Sizes.{helds}
use Rattle.device_store.specs.declared.Settings.{Settings}
use Rattle.device_store.specs.Quantities.{is_current, direction_of, phase_of, supports}
use Rattle.command_fields.specs.Fields.{field_above}
use Rattle.command_by_quantity.specs.Says.{says, top_of, some_of, field_names, field_negative}
use Rattle.command_tests.specs.declared.asks.FieldTest.{FieldTest}

-- a quantity that is named though its direction is not supported
abbrev pub beyond : ℕ → Field → ℕ → Bool
beyond has f q = field_names f && not (supports has (direction_of q))

-- a phase "from the phase count up", named by a number or by null
abbrev pub outside : ℕ → Field → ℕ → Bool
outside count f q = field_names f && (is_current q && leb count (phase_of q))

-- whether it is so of a field of quantity q
abbrev pub is_so : FieldTest → Settings → Field → ℕ → Bool
is_so FieldTest.Named s f q = field_names f
is_so FieldTest.Negative s f q = field_negative f
is_so FieldTest.UnsupportedDirection s f q = beyond s.directions f q
is_so FieldTest.MissingPhase s f q = outside s.phases f q
is_so FieldTest.AboveMaximum s f q = field_above (top_of s q) f

-- and of some quantity
abbrev pub some_field_is : FieldTest → Settings → Command → Bool
some_field_is k s c = some_of (λ q. is_so k s (says c q) q) helds
