-- The head of the map with the count of its phases, then the phases.
use Rattle.wire_fields.specs.Fields.{amount_item}
use Rattle.wire_fields.specs.ByPhase.{currents_item}
use Rattle.wire_fields.proofs.Added.{flat-amount}
use Rattle.wire_fields.proofs.PhaseLaws.{puts_map}
use Rattle.wire_responses.proofs.writing.put_currents.Goals as goal

pub returns : goal.returns
unfolding currents_item
returns c =
    puts_map 2 (amount_item c.args.l.a) (amount_item c.args.l.b) (amount_item c.args.l.c) (flat-amount c.args.l.a)
    (flat-amount c.args.l.b) (flat-amount c.args.l.c)
    (rw (c.amount_key_head-a.ensures, c.amount_key_head-b.ensures, c.amount_key_head-c.ensures) at c.count_phases.ensures) c.put_map-head.ensures
    (rw (c.amount_key_head-a.ensures, c.amount_key_head-b.ensures, c.amount_key_head-c.ensures) at c.put_phases.ensures)
