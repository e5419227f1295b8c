-- No record starts from `at` up to where the loop stands.
use mathlib.Core.Path.{sym, ◌∙◌}
use Rattle.rescue_walk.proofs.Loops.{run-again, run-found, run-over}
use Rattle.rescue_walk.proofs.steps.run_end.Goals as goal

pub returns-then-is_some : goal.returns-then-is_some
returns-then-is_some c =
    run-found c.args.s.now c.args.at c.loop-e.e c.loop-e.invariant _ c.record_end.ensures (sym c.is_some.ensures ∙ c.if-is_some.true)

pub loop-e-preserved : goal.loop-e-preserved
loop-e-preserved c =
    run-again c.args.s.now c.args.at c.loop-e.e c.loop-e.invariant c.loop-e-test.true _ c.record_end.ensures (sym c.is_some.ensures ∙ c.if-is_some.false)

pub returns : goal.returns
returns c = run-over c.args.s.now c.args.at c.loop-e.e c.loop-e.invariant c.loop-e-test.false
