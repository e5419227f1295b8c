-- Put as it is to be seen.
use Rattle.wire_fields.specs.Fields.{amount_item}
use Rattle.wire_fields.proofs.Added.{flat-put, flat-amount}
use Rattle.wire_fields.proofs.puts.put_amount.Goals as goal

pub returns : goal.returns
returns c =
    flat-put _ (amount_item c.args.a) (flat-amount c.args.a) _ c.amount_key_head.ensures c.put_key_head.ensures
