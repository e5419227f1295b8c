-- What is asked of a command itself.
unfoldable pub use Rattle.command_tests.specs.Content.{unsupported, invalid, below_the_minimum, is_capped, too_low}
pub use Rattle.command_tests.specs.Asked.{beyond, outside}
pub use Rattle.command_tests.specs.Content.{of_none, is_unserved, accepts, aim_unsupported, of_limits, sets_limits, content_tests}
