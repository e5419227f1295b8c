-- The parameters of a Set command, written: one shape, from which SetLimit and SetSetpoint alike are written, and that of SetCurrentLimits. Assumes nothing: these are definitions.
use Rattle.std.specs.Prelude.{[], ◌∷◌}
use Rattle.std.proofs.Math.Option.{some}
use Rattle.wire_cbor.specs.Item.{Item}
use Rattle.wire_messages.specs.declared.CurrentLimits.{CurrentLimits}
use Rattle.wire_fields.specs.Fields.{value_item, amount_item, Fields}
use Rattle.wire_fields.specs.ByPhase.{phases_item}
use Rattle.wire_messages.specs.declared.set_parameters.Setting.{Setting}
unfoldable pub use Rattle.wire_messages.specs.Shapes.{setting_of_limits, setting_of_setpoints}
pub use Rattle.wire_messages.specs.Shapes.{duration_amount, target_field}

unfoldable pub setting_fields : Setting → Fields
setting_fields s =
    (1, value_item s.consumption) ∷ (2, value_item s.production) ∷ (3, amount_item s.duration) ∷ (4, some (Item.uint s.cause)) ∷ []

unfoldable pub current_limit_fields : CurrentLimits → Fields
current_limit_fields l =
    (1, phases_item l.phases) ∷ (2, some (Item.uint l.direction)) ∷ (3, amount_item (duration_amount l.duration)) ∷ (4, some (Item.uint l.cause)) ∷ []
