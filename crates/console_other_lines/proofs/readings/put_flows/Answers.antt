-- The five flows one behind the other, or a dash.
use Rattle.console_other_lines.proofs.Measured.{flows_some, flows_none}
use Rattle.console_other_lines.proofs.readings.put_flows.Goals as goal

pub returns-then-some_flow : goal.returns-then-some_flow
returns-then-some_flow c =
    let both =
    flows_some _ _ _ _ c.some_flow.ensures c.if-some_flow.true _ _ _ _ _ _ _ _ _ _ _ _ _ _ _
    c.power_flow.ensures c.dc_flow.ensures c.phase_flow.ensures c.phase_flow-then-some_flow.ensures c.phase_flow-then-some_flow-2.ensures
    (c.put_flow-p.ensures.value, c.put_flow-p.ensures.out_after) (c.put_flow-q.ensures.value, c.put_flow-q.ensures.out_after) (c.put_flow-r.ensures.value, c.put_flow-r.ensures.out_after)
    (c.put_flow-t.ensures.value, c.put_flow-t.ensures.out_after) (c.put_flow.ensures.value, c.put_flow.ensures.out_after) in
    record { value = both.0; out_after = both.1 }

pub returns : goal.returns
returns c =
    let both =
    flows_none _ _ _ _ c.some_flow.ensures c.if-some_flow.false _ _ (c.put_bytes.ensures.value, c.put_bytes.ensures.out_after) in
    record { value = both.0; out_after = both.1 }
