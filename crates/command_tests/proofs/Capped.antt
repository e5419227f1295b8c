-- A clear says no number, so that only a Set command is capped.
use Rattle.std.specs.Prelude.{None, Some}
use Prim.Native.Nat.{ℕ}
use mathlib.Core.Bool.{Bool, true, false, cond, ◌&&◌}
use mathlib.Core.Path.{◌≡◌, refl, sym}
use lib.Dec.{eqb}
use Rattle.wire_messages.specs.declared.Field.{Field}
use Rattle.wire_messages.specs.Options.{Aim}
use Rattle.wire_messages.specs.declared.Command.{Command}
use Rattle.device_store.specs.declared.Settings.{Settings}
use Rattle.device_store.specs.Quantities.{helds, is_limit, is_setpoint, is_current, direction_of}
use Rattle.command_fields.specs.Fields.{field_above}
use Rattle.command_by_quantity.specs.Says.{says, is_set, aim_field}
use Rattle.command_tests.specs.Asked.{some_field_is}
use Rattle.command_tests.specs.declared.asks.FieldTest.{FieldTest}
use Rattle.command_tests.proofs.Quantities.{some-none}
use Rattle.command_tests.specs.Content.{is_capped}

-- a clear says no number, and so none above a top
module _ (top : ℕ) where
  null : (b : Bool) → field_above top (cond b Field.Null Field.Absent) ≡ false
  null true = refl
  null false = refl

  clears : (b : Bool) (a : Aim) (d : ℕ) → field_above top (cond b (aim_field a d) Field.Absent) ≡ false
  clears true None d = refl
  clears true (Some e) d = null (eqb e d)
  clears false a d = refl

pub capped : (s : Settings) (c : Command) → (is_set c && some_field_is FieldTest.AboveMaximum s c) ≡ is_capped s c
unfolding is_capped says
capped s (Command.SetLimit m) = refl
capped s (Command.ClearLimit a) = sym (some-none _ (λ q. clears _ (is_limit q) a (direction_of q)) helds)
capped s (Command.SetSetpoint m) = refl
capped s (Command.ClearSetpoint a) = sym (some-none _ (λ q. clears _ (is_setpoint q) a (direction_of q)) helds)
capped s (Command.SetCurrentLimits m) = refl
capped s (Command.ClearCurrentLimits a) = sym (some-none _ (λ q. clears _ (is_current q) a (direction_of q)) helds)
capped s (Command.Unserved n) = sym (some-none _ (λ q. refl) helds)
