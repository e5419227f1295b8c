-- No phase, nothing; else the head of the map with the count of its phases, then the phases.
use Rattle.measurement_writer.proofs.Walk.{key_low}
use Rattle.measurement_writer.proofs.Cases.{three_none, three_some}
use Rattle.measurement_writer.proofs.Short.{three_left_out, three_put}
use Rattle.measurement_writer.proofs.puts.put_three.Goals as goal

pub returns-then-n-eq0 : goal.returns-then-n-eq0
returns-then-n-eq0 c =
    three_left_out _ (three_none _ _ _ c.requires.2 _ _ _ c.cell_key_head-a.ensures c.cell_key_head-b.ensures c.cell_key_head-c.ensures _
    c.count_phases-n.ensures c.if-n-eq0.true) _ _ _ _

pub returns : goal.returns
returns c =
    three_put _ (key_low _ c.requires.1) _ _ _ _
    (three_some _ _ _ c.requires.2 _ _ _ c.cell_key_head-a.ensures c.cell_key_head-b.ensures c.cell_key_head-c.ensures _ c.count_phases-n.ensures
    c.if-n-eq0.false)
    _ c.requires.2 _ _ _ c.cell_key_head-a.ensures c.cell_key_head-b.ensures c.cell_key_head-c.ensures _ c.count_phases-n.ensures
    c.put_map-behind.ensures c.put_phases.ensures
