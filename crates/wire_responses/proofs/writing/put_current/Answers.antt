-- The key with the head of the map, then success and the map of phases.
use Rattle.wire_responses.proofs.Encoded.{current-bytes}
use Rattle.wire_fields.proofs.Added.{puts_more, puts_same}
use Rattle.wire_responses.proofs.writing.put_current.Goals as goal

pub returns : goal.returns
returns c =
    puts_same (current-bytes c.args.l) (puts_more (puts_more c.put_map-a.ensures.puts c.put_truth-b.ensures.puts)
    c.put_currents.ensures)
