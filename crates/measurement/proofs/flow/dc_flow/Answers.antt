-- Its attribute stands in place 25.
use mathlib.Core.Path.{ap, ◌∙◌}
use Rattle.measurement.specs.Flow.{flow_of}
use Rattle.measurement.proofs.Flows.{dc_place}
use Rattle.measurement.proofs.flow.dc_flow.Goals as goal

pub returns : goal.returns
returns c = c.flow_at.ensures ∙ ap flow_of (dc_place c.args.words.now)
