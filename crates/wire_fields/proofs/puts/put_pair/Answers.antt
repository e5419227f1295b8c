-- Two heads, one behind the other.
use Rattle.wire_fields.proofs.Added.{field-pair}
use Rattle.wire_fields.proofs.puts.put_pair.Goals as goal

pub returns : goal.returns
returns c =
    field-pair c.args.out.now _ _ c.args.at c.args.key c.args.major c.args.arg _ _ c.requires
    (c.put_head-behind.ensures.value, c.put_head-behind.ensures.out_after)
    (c.put_head.ensures.value, c.put_head.ensures.out_after)
