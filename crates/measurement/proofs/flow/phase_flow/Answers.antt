-- Its phases stand from place 3 on.
use mathlib.Core.Path.{ap, ◌∙◌}
use Rattle.measurement.specs.Flow.{flow_of}
use Rattle.measurement.proofs.Flows.{phase_place, no_phase}
use Rattle.measurement.proofs.flow.phase_flow.Goals as goal

pub returns-then-phase-lt-PHASES : goal.returns-then-phase-lt-PHASES
returns-then-phase-lt-PHASES c =
    c.flow_at.ensures ∙ ap flow_of (phase_place c.args.words.now c.args.phase c.if-phase-lt-PHASES.true)

pub returns : goal.returns
returns c = no_phase c.args.words.now c.args.phase c.if-phase-lt-PHASES.false
