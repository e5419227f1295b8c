-- By the mark.
use Rattle.measurement_writer.proofs.FitCases.{see_above, see_below, see_none}
use Rattle.measurement_writer.proofs.heads.cell_key_head.Goals as goal

pub returns-then-p-eq1 : goal.returns-then-p-eq1
returns-then-p-eq1 c = see_above _ _ c.place_at-p.ensures c.if-p-eq1.true

pub returns-then-p-eq2 : goal.returns-then-p-eq2
returns-then-p-eq2 c = see_below _ _ c.place_at-p.ensures c.if-p-eq2.true

pub returns : goal.returns
returns c = see_none _ _ c.place_at-p.ensures c.if-p-eq1.false c.if-p-eq2.false
