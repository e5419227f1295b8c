-- One place that holds a number, or three of which one does.
use Rattle.measurement_writer.proofs.FitWalk.{three_places}
use Rattle.measurement_writer.proofs.Cases.{one_absent, one_there, three_absent, three_there}
use Rattle.measurement_writer.proofs.puts.count_row.Goals as goal

pub returns-then-a-eq8 : goal.returns-then-a-eq8
returns-then-a-eq8 c = one_absent _ _ _ c.if-row-eq1.true _ c.cell_key_head-a.ensures c.if-a-eq8.true

pub returns-then-row-eq1 : goal.returns-then-row-eq1
returns-then-row-eq1 c = one_there _ _ _ c.if-row-eq1.true _ c.cell_key_head-a.ensures c.if-a-eq8.false

pub returns-then-count_phases-eq0 : goal.returns-then-count_phases-eq0
returns-then-count_phases-eq0 c =
    three_absent _ _ _ (three_places _ c.requires.1 c.if-row-eq1.false) _ _ _ c.cell_key_head-a.ensures c.cell_key_head-b.ensures
    c.cell_key_head-c.ensures _ c.count_phases.ensures c.if-count_phases-eq0.true

pub returns : goal.returns
returns c =
    three_there _ _ _ (three_places _ c.requires.1 c.if-row-eq1.false) _ _ _ c.cell_key_head-a.ensures c.cell_key_head-b.ensures
    c.cell_key_head-c.ensures _ c.count_phases.ensures c.if-count_phases-eq0.false
