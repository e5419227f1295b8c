-- By the mark, and whether the number is zero.
use Rattle.measurement.proofs.Flows.{flow_zero, flow-in, flow_out, flow_none}
use Rattle.measurement.proofs.flow.flow_at.Goals as goal

pub returns-then-p-eq0 : goal.returns-then-p-eq0
returns-then-p-eq0 c = flow_zero _ _ c.place_at-p.ensures c.if-p-eq1.true c.if-p-eq0.true

pub returns-then-p-eq1 : goal.returns-then-p-eq1
returns-then-p-eq1 c = flow-in _ _ c.place_at-p.ensures c.if-p-eq1.true c.if-p-eq0.false

pub returns-then-p-eq2 : goal.returns-then-p-eq2
returns-then-p-eq2 c = flow_out _ _ c.place_at-p.ensures c.if-p-eq2.true

pub returns : goal.returns
returns c = flow_none _ _ c.place_at-p.ensures c.if-p-eq1.false c.if-p-eq2.false
