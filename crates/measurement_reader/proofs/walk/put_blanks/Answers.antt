-- What is left to blank makes the whole.
use mathlib.Core.Path.{sym, ◌∙◌}
use native.Mathlib.Omega.{arith}
use Rattle.measurement_reader.proofs.Fills.{blank_step, blank-end}
use Rattle.measurement_reader.proofs.walk.put_blanks.Goals as goal

pub loop-i-preserved : goal.loop-i-preserved
loop-i-preserved c =
    (omega arith, blank_step _ _ _ _ _ c.loop-i-test.true c.put_place.ensures ∙ c.loop-i.invariant.1)

pub returns : goal.returns
returns c = sym (blank-end _ _ _ _ c.loop-i-test.false) ∙ c.loop-i.invariant.1
