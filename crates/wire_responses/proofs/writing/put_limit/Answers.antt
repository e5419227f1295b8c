-- The key with the head of the map, then its fields one behind the other.
use Rattle.wire_responses.proofs.Encoded.{limit-count, limit-bytes}
use Rattle.wire_fields.proofs.Added.{puts_more, puts_same}
use Rattle.wire_responses.proofs.writing.put_limit.Goals as goal

pub returns : goal.returns
returns c =
    puts_same (limit-bytes c.args.l _ (limit-count c.args.l _ _ _ c.count_amount.ensures c.count_amount-2.ensures
    c.count_amount-3.ensures)) (puts_more (puts_more
    (puts_more (puts_more (puts_more c.put_map-a.ensures.puts c.put_truth-b.ensures.puts) c.put_uint-c.ensures.puts) c.put_amount-d.ensures.puts)
    c.put_amount-e.ensures.puts) c.put_amount.ensures.puts)
