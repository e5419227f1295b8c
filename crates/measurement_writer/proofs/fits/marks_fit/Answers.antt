-- What is left of the marks makes the whole.
use mathlib.Core.Path.{◌∙◌}
use native.Mathlib.Omega.{arith}
use Rattle.measurement_writer.proofs.FitWalk.{mark_not, mark_more, marks-end}
use Rattle.measurement_writer.proofs.fits.marks_fit.Goals as goal

pub returns-then-words-i-gt2 : goal.returns-then-words-i-gt2
returns-then-words-i-gt2 c = mark_not _ _ c.loop-i-test.true c.if-words-i-gt2.true ∙ c.loop-i.invariant.1

pub loop-i-preserved : goal.loop-i-preserved
loop-i-preserved c =
    (omega arith, mark_more _ _ c.loop-i-test.true c.if-words-i-gt2.false ∙ c.loop-i.invariant.1)

pub returns : goal.returns
returns c = marks-end _ _ c.loop-i-test.false ∙ c.loop-i.invariant.1
