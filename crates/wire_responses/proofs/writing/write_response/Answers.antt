-- Refused, or written as it is.
use Rattle.wire_responses.specs.WrittenResponses.{response_item, response_number}
use Rattle.wire_output.specs.Writing.{item_frame}
use Rattle.wire_output.proofs.Sends.{a_refusal}
use Rattle.wire_responses.proofs.writing.write_response.Goals as goal

pub returns-then-number-ne0 : goal.returns-then-number-ne0
returns-then-number-ne0 c =
    let both =
    a_refusal _ (response_number c.args.command c.args.r) (item_frame (response_item c.args.r)) c.args.out.now _
    c.response_number-number.ensures c.if-number-ne0.true c.refused.ensures in
    record { value = both.0; out_after = both.1 }
