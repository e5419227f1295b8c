-- The head of the map, its four numbers and the parameters one behind the other.
use native.Mathlib.Omega.{arith}
use Rattle.wire_requests.proofs.Encoded.{request_bytes}
use Rattle.wire_fields.proofs.Added.{puts_more, puts_wider, puts_same, puts_head}
use Rattle.wire_requests.specs.Sizes.{payload_room}
use Rattle.wire_requests.proofs.writing.put_request.Goals as goal

pub returns : goal.returns
returns c =
    let a = puts_head c.args.out.now _ 0 5 5 _ (omega arith) (c.put_head-a.ensures.value, c.put_head-a.ensures.out_after) in
    puts_wider payload_room (omega arith) (puts_same (request_bytes c.args.r _ _ c.wire_number.ensures c.count_command.ensures)
    (puts_more (puts_more (puts_more (puts_more (puts_more (puts_more (a) c.put_uint-b.ensures.puts) c.put_uint-c.ensures.puts) c.put_uint-d.ensures.puts)
    c.put_uint-e.ensures.puts) c.put_map-f.ensures.puts) c.put_command.ensures))
