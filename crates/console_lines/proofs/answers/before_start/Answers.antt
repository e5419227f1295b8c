-- Directions are 0 to 2, so a start with 3 is refused.
use mathlib.Core.Path.{ap, ◌∙◌}
use Rattle.device_rules.specs.Rules.{bad_settings}
use Rattle.device_calls.specs.Start.{start_after}
use Rattle.console_kernel_lines.specs.Starts.{settings_in}
use Rattle.console_lines.proofs.answers.before_start.Goals as goal

pub returns : goal.returns
unfolding start_after bad_settings settings_in
returns c = c.start.ensures.d_after ∙ ap start_after c.settings_of.ensures
