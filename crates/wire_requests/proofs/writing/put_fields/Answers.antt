-- The head of the map with the count of its phases, then the phases.
use Rattle.wire_fields.specs.Fields.{value_item}
use Rattle.wire_fields.specs.ByPhase.{phases_item}
use Rattle.wire_fields.proofs.Added.{flat-value}
use Rattle.wire_fields.proofs.PhaseLaws.{puts_map}
use Rattle.wire_requests.proofs.writing.put_fields.Goals as goal

pub returns : goal.returns
unfolding phases_item
returns c =
    puts_map 1 (value_item c.args.p.a) (value_item c.args.p.b) (value_item c.args.p.c) (flat-value c.args.p.a)
    (flat-value c.args.p.b) (flat-value c.args.p.c)
    (rw (c.field_key_head-a.ensures, c.field_key_head-b.ensures, c.field_key_head-c.ensures) at c.count_phases.ensures) c.put_map-head.ensures
    (rw (c.field_key_head-a.ensures, c.field_key_head-b.ensures, c.field_key_head-c.ensures) at c.put_phases.ensures)
