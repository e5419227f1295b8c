-- The command is served, or refused with 4.
use Rattle.wire_responses.proofs.Answered.{named, not_named}
use Rattle.wire_responses.proofs.reading.read_response.Goals as goal

pub returns-then-is_command : goal.returns-then-is_command
returns-then-is_command c =
    named c.args.command c.args.frame.now _ c.is_command.ensures c.if-is_command.true _ c.read_answer.ensures

pub returns : goal.returns
returns c = not_named c.args.command c.args.frame.now _ c.is_command.ensures c.if-is_command.false
