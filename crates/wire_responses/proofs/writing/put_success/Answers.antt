-- The key with the head of the map, then its one field.
use native.Mathlib.Omega.{arith}
use Rattle.wire_responses.proofs.Encoded.{clear-bytes}
use Rattle.wire_fields.proofs.Added.{puts_more, puts_wider, puts_same}
use Rattle.wire_responses.specs.Sizes.{outcome_room}
use Rattle.wire_responses.proofs.writing.put_success.Goals as goal

pub returns : goal.returns
returns c =
    puts_wider outcome_room (omega arith) (puts_same clear-bytes (puts_more c.put_map-a.ensures.puts c.put_truth.ensures.puts))
