-- The fields one behind the other are the bytes of the map.
use Rattle.wire_requests.proofs.Encoded.{setting_bytes}
use native.Mathlib.Omega.{arith}
use Rattle.wire_fields.proofs.Added.{puts_more, puts_wider, puts_same}
use Rattle.wire_requests.specs.Sizes.{params_room}
use Rattle.wire_requests.proofs.writing.put_setting.Goals as goal

pub returns : goal.returns
returns c =
    puts_wider params_room (omega arith) (puts_same (setting_bytes c.args.s) (puts_more
    (puts_more (puts_more c.put_value-after_c.ensures.puts c.put_value-after_p.ensures.puts) c.put_amount-after_d.ensures.puts) c.put_uint.ensures.puts))
