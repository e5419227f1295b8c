-- The one test, with each phase as a field.
use Rattle.wire_fields.specs.Fields.{value_in}
use Rattle.wire_fields.specs.ByPhase.{phases_in, phases_from}
use Rattle.wire_fields.specs.KeyHeads.{field_of}
use Rattle.wire_fields.specs.Ranges.{signed_bits}
use Rattle.wire_fields.specs.Seen.{fields_seen}
use Rattle.wire_fields.proofs.Given.{then_some_is}
use Rattle.wire_fields.proofs.RangeLaws.{values-by_range}
use Rattle.wire_fields.proofs.PhaseLaws.{phases-read}
use Rattle.wire_fields.proofs.phases.read_phases.Goals as goal

pub returns : goal.returns
unfolding phases_in fields_seen
returns c =
    record {
      phases_read = phases-read (signed_bits 64) c.args.null (value_in c.args.null) field_of phases_from (values-by_range c.args.null) c.args.k
          c.args.a c.args.b c.args.c _
          c.is_phases.ensures.phases_tell _ _ _ c.field_of.ensures c.field_of-2.ensures c.field_of-3.ensures _ c.then_some.ensures;
      value = rw (c.then_some.ensures, c.is_phases.ensures.value, c.field_of.ensures, c.field_of-2.ensures, c.field_of-3.ensures) (then_some_is _ _);
    }
