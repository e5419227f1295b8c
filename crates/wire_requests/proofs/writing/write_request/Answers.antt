-- Refused, or written whole into a local that has the room, and sent.
use Rattle.wire_requests.specs.WrittenRequests.{request_number, request_item}
use Rattle.wire_output.specs.Writing.{item_frame}
use Rattle.wire_output.proofs.Sends.{send_item, no_refusal, a_refusal}
use borrow.Author.Rules.{rules}
use Rattle.wire_requests.proofs.writing.write_request.Goals as goal

pub returns-then-number-ne0 : goal.returns-then-number-ne0
returns-then-number-ne0 c =
    let both =
    a_refusal _ (request_number c.args.r) (item_frame (request_item c.args.r)) c.args.out.now _ c.request_number-number.ensures
    c.if-number-ne0.true c.refused.ensures in
    record { value = both.0; out_after = both.1 }

pub returns : goal.returns
returns c =
    let both =
    no_refusal _ (request_number c.args.r) (item_frame (request_item c.args.r)) c.args.out.now _ _ c.request_number-number.ensures
    c.if-number-ne0.false
    (send_item (request_item c.args.r) c.args.out.now (search rules) c.put_request-n.ensures (c.write_frame.ensures.value, c.write_frame.ensures.out_after)) in
    record { value = both.0; out_after = both.1 }
