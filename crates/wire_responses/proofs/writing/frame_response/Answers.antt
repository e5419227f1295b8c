-- The payload is written whole into a local that has the room, and sent.
use Rattle.wire_responses.specs.WrittenResponses.{response_item}
use Rattle.wire_output.proofs.Sends.{send_item}
use borrow.Author.Rules.{rules}
use Rattle.wire_responses.proofs.writing.frame_response.Goals as goal

pub returns : goal.returns
returns c =
    let both =
    send_item (response_item c.args.r) c.args.out.now (search rules) c.put_response-n.ensures (c.write_frame.ensures.value, c.write_frame.ensures.out_after) in
    record { value = both.0; out_after = both.1 }
