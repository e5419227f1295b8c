-- Put as it is to be seen.
use Rattle.wire_fields.specs.Fields.{value_item}
use Rattle.wire_fields.proofs.Added.{flat-put, flat-value}
use Rattle.wire_fields.proofs.puts.put_value.Goals as goal

pub returns : goal.returns
returns c =
    flat-put _ (value_item c.args.f) (flat-value c.args.f) _ c.field_key_head.ensures c.put_key_head.ensures
