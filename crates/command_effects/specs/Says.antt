-- A command seen by quantity.
unfoldable pub use Rattle.command_by_quantity.specs.Says.{says, some_of}
pub use Rattle.command_by_quantity.specs.Says.{current_field, kind_of, is_of, field_at, is_set, aim_of, duration_of, top_of}
pub use Rattle.command_by_quantity.specs.Says.{limit_field, target_field, setpoint_field, aim_field, phase_field, negative, natural, field_names, field_negative}
