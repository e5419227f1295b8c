-- A record that was read ends behind its body.
use mathlib.Core.Path.{sym, ◌∙◌}
use native.Mathlib.Omega.{arith}
use Rattle.rescue_walk.proofs.Begins.{end-good, end-bad, end_fits}
use Rattle.rescue_walk.proofs.steps.record_end.Goals as goal

pub returns-in_err-r : goal.returns-in_err-r
returns-in_err-r c = c.from_residual.ensures ∙ end-bad c.args.s.now c.args.at (sym c.in_err-r.ensures)

pub overflow_add-result : goal.overflow_add-result
overflow_add-result c =
    omega (arith, end_fits c.args.s.now c.args.at _ (sym c.in_ok-r.ensures))

pub returns : goal.returns
returns c = end-good c.args.s.now c.args.at _ (sym c.in_ok-r.ensures)
