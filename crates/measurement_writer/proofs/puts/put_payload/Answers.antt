-- The head of the map with the count of the attributes, then the attributes.
use Rattle.measurement_writer.proofs.Short.{payload_put}
use Rattle.measurement_writer.proofs.puts.put_payload.Goals as goal

pub returns : goal.returns
returns c =
    payload_put c.args.words.now _ c.count_rows-n.ensures.value c.count_rows-n.ensures.upper_bound c.args.out.now _ _ _ _ (c.put_head-p.ensures.value, c.put_head-p.ensures.out_after)
    c.put_rows.ensures
