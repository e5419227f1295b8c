-- A single cell, phases, or blanks, by the row's places and what the walk found.
use Rattle.measurement_reader.proofs.Rows.{row-refused, row-single, row-phases, row-blank}
use Rattle.measurement_reader.proofs.walk.row_into.Goals as goal

pub returns-then-c-eq-REFUSED : goal.returns-then-c-eq-REFUSED
returns-then-c-eq-REFUSED c =
    row-refused _ _ _ _ _ _ _ _ c.range_of-range.ensures c.if-width-eq1.true _ c.cell_at-c.ensures c.if-c-eq-REFUSED.true

pub returns-then-width-eq1 : goal.returns-then-width-eq1
returns-then-width-eq1 c =
    row-single _ _ _ _ _ _ _ _ c.range_of-range.ensures c.if-width-eq1.true _ c.cell_at-c.ensures c.if-c-eq-REFUSED.false c.put_place.ensures

pub returns-then-there : goal.returns-then-there
returns-then-there c =
    row-phases _ _ _ _ _ _ _ _ c.range_of-range.ensures c.if-width-eq1.false c.if-there.true _ c.phases_into.ensures

pub returns : goal.returns
returns c = row-blank _ _ _ _ _ _ _ c.if-width-eq1.false c.if-there.false c.put_blanks.ensures
