-- The parameters of a Set command, read: one shape, which SetLimit and SetSetpoint alike are read into, and that of SetCurrentLimits. Assumes nothing: these are definitions.
use Rattle.std.specs.Prelude.{Bool, true}
use Rattle.std.proofs.Math.Option.{Option, some, bind}
use Rattle.wire_cbor.specs.Item.{Pairs}
use Rattle.wire_cbor.specs.Find.{value_of}
use Rattle.wire_messages.specs.declared.CurrentLimits.{CurrentLimits}
use Rattle.wire_fields.specs.Fields.{number_up_to, needed, most32, value_in, amount_in}
use Rattle.wire_fields.specs.ByPhase.{phases_in}
use Rattle.wire_messages.specs.declared.set_parameters.Setting.{Setting}
unfoldable pub use Rattle.wire_messages.specs.Shapes.{limits_from, setpoints_from}
pub use Rattle.wire_messages.specs.Shapes.{duration_of, target_of}

-- "SetLimit: 1 consumption, 2 production, 3 duration (32 bits), 4 cause (0 to 255, required, not kept)"; null where it is allowed
unfoldable pub setting_in : Bool → Pairs → Option Setting
setting_in null ps =
    bind (value_in null (value_of ps 1)) (λ c.
    bind (value_in null (value_of ps 2)) (λ p.
    bind (amount_in most32 (value_of ps 3)) (λ d.
    bind (needed (number_up_to 255) (value_of ps 4)) (λ k.
    some (record { consumption = c; production = p; duration = d; cause = k })))))

-- SetCurrentLimits: "1 a map of phase (A 0, B 1, C 2) to mA or null, 2 direction, 3 duration, 4 cause"; 3 may be absent
unfoldable pub current_limits_in : Pairs → Option CurrentLimits
current_limits_in ps =
    bind (phases_in true (value_of ps 1)) (λ f.
    bind (needed (number_up_to 1) (value_of ps 2)) (λ x.
    bind (amount_in most32 (value_of ps 3)) (λ d.
    bind (needed (number_up_to 255) (value_of ps 4)) (λ k.
    some (record { phases = f; direction = x; duration = duration_of d; cause = k })))))
