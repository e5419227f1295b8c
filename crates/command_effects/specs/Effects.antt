-- What a command leaves held.
unfoldable pub use Rattle.command_effects.specs.Obeys.{field_action, action, done, obeyed, until_of}
