-- The key with the head of the map, then its fields one behind the other.
use native.Mathlib.Omega.{arith}
use Rattle.wire_responses.proofs.Encoded.{setpoint-count, setpoint-bytes}
use Rattle.wire_fields.proofs.Added.{puts_more, puts_wider, puts_same}
use Rattle.wire_responses.specs.Sizes.{outcome_room}
use Rattle.wire_responses.proofs.writing.put_setpoint.Goals as goal

pub returns : goal.returns
returns c =
    puts_wider outcome_room (omega arith) (puts_same
    (setpoint-bytes c.args.l _ (setpoint-count c.args.l _ _ c.count_amount.ensures c.count_amount-2.ensures))
    (puts_more (puts_more (puts_more c.put_map-a.ensures.puts c.put_truth-b.ensures.puts) c.put_amount-c.ensures.puts) c.put_amount.ensures.puts))
