-- The map of phases and the fields behind it are the bytes of the map.
use Rattle.wire_requests.proofs.Encoded.{current-limits_bytes}
use Rattle.wire_fields.proofs.Added.{puts_more, puts_same}
use Rattle.wire_requests.proofs.writing.put_current_limits.Goals as goal

pub returns : goal.returns
returns c =
    puts_same (current-limits_bytes c.args.l _ c.duration_amount.ensures) (puts_more
    (puts_more (puts_more c.put_fields-after_f.ensures c.put_uint-after_x.ensures.puts) c.put_amount-after_d.ensures.puts)
    c.put_uint.ensures.puts)
