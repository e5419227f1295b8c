-- By the head of the value, where the walk found one; nothing where it did not.
use Rattle.measurement_reader.proofs.Fills.{cell-no_head, cell-head, cell-absent}
use Rattle.measurement_reader.proofs.cells.cell_at.Goals as goal

pub returns-in-None : goal.returns-in-None
returns-in-None c = cell-no_head _ _ _ _ c.if-there.true _ c.read_head.ensures c.in-None.is

pub returns-in-Some : goal.returns-in-Some
returns-in-Some c =
    cell-head _ _ _ _ c.if-there.true _ c.read_head.ensures _ _ _ c.in-Some.is _ c.number_of.ensures

pub returns : goal.returns
returns c = cell-absent _ _ _ _ c.if-there.false
