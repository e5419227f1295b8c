-- The one test, with each phase as an amount.
use Rattle.wire_fields.specs.Fields.{amount_in}
use Rattle.wire_fields.specs.ByPhase.{currents_in, currents_from}
use Rattle.wire_fields.specs.KeyHeads.{amount_of}
use Rattle.wire_fields.specs.Ranges.{up_to_most}
use Rattle.wire_fields.specs.Seen.{amounts_seen}
use Rattle.wire_fields.proofs.Given.{then_some_is}
use Rattle.wire_fields.proofs.RangeLaws.{amounts_by_range}
use Rattle.wire_fields.proofs.PhaseLaws.{phases-read}
use Rattle.wire_fields.proofs.phases.read_currents.Goals as goal

pub returns : goal.returns
unfolding currents_in amounts_seen
returns c =
    record {
      phases_read = phases-read (up_to_most c.args.most) _ (amount_in c.args.most) amount_of currents_from (amounts_by_range c.args.most) c.args.k
          c.args.a c.args.b c.args.c _
          (rw c.up_to.ensures at c.is_phases.ensures.phases_tell) _ _ _ c.amount_of.ensures c.amount_of-2.ensures c.amount_of-3.ensures _ c.then_some.ensures;
      value = rw (c.then_some.ensures, c.is_phases.ensures.value, c.up_to.ensures, c.amount_of.ensures, c.amount_of-2.ensures, c.amount_of-3.ensures) (then_some_is _ _);
    }
