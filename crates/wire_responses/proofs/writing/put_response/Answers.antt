-- The head of the map, then its fields one behind the other.
use native.Mathlib.Omega.{arith}
use Rattle.wire_responses.proofs.Encoded.{response_bytes}
use Rattle.wire_fields.proofs.Added.{puts_more, puts_wider, puts_same, puts_head}
use Rattle.wire_responses.specs.Sizes.{payload_room}
use Rattle.wire_responses.proofs.writing.put_response.Goals as goal

pub returns : goal.returns
returns c =
    let a = puts_head c.args.out.now _ 0 5 _ _ (omega arith) (c.put_head-a.ensures.value, c.put_head-a.ensures.out_after) in
    puts_wider payload_room (omega arith) (puts_same (response_bytes c.args.r _ c.count_outcome.ensures)
    (puts_more (puts_more (puts_more a c.put_uint-b.ensures.puts) c.put_uint-c.ensures.puts) c.put_outcome.ensures))
