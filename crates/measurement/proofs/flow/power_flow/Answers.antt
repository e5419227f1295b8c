-- Its attribute stands first.
use mathlib.Core.Path.{ap, ◌∙◌}
use Rattle.measurement.specs.Flow.{flow_of}
use Rattle.measurement.proofs.Flows.{power_place}
use Rattle.measurement.proofs.flow.power_flow.Goals as goal

pub returns : goal.returns
returns c = c.flow_at.ensures ∙ ap flow_of (power_place c.args.words.now)
