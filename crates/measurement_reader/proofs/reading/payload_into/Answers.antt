-- By the head: a map's rows, and refused for anything else.
use Rattle.measurement_reader.proofs.ByTree.{payload_no_head, payload_no_map, payload_map}
use Rattle.measurement_reader.proofs.reading.payload_into.Goals as goal

pub returns-then-head-eq5 : goal.returns-then-head-eq5
returns-then-head-eq5 c =
    payload_map _ _ _ _ _ c.read_head.ensures _ _ _ c.in-Some.is c.if-head-eq5.true _ c.rows_into.ensures

pub returns-else-head-eq5 : goal.returns-else-head-eq5
returns-else-head-eq5 c = payload_no_map _ _ _ _ _ c.read_head.ensures _ _ _ c.in-Some.is c.if-head-eq5.false

pub returns-in-None : goal.returns-in-None
returns-in-None c = payload_no_head _ _ _ _ _ c.read_head.ensures c.in-None.is
