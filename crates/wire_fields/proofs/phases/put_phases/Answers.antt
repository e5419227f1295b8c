-- One pair behind the other.
use Rattle.wire_fields.proofs.PhaseLaws.{phases-put}
use Rattle.wire_fields.proofs.phases.put_phases.Goals as goal

pub returns : goal.returns
returns c = phases-put c.put_key_head-x.ensures c.put_key_head-y.ensures c.put_key_head.ensures
