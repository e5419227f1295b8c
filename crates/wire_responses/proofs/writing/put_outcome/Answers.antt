-- By the case.
use Rattle.wire_fields.specs.Puts.{field_bytes}
use Rattle.wire_responses.specs.WrittenResponses.{outcome_item}
use Rattle.wire_fields.proofs.Added.{puts_none}
use Rattle.wire_responses.proofs.writing.put_outcome.Goals as goal

pub returns-in-Nothing : goal.returns-in-Nothing
unfolding outcome_item field_bytes
returns-in-Nothing c = rw c.in-Nothing.is (puts_none c.args.out.now c.args.at _)

pub returns-in-Limit : goal.returns-in-Limit
unfolding outcome_item field_bytes
returns-in-Limit c = rw c.in-Limit.is c.put_limit.ensures

pub returns-in-Setpoint : goal.returns-in-Setpoint
unfolding outcome_item field_bytes
returns-in-Setpoint c = rw c.in-Setpoint.is c.put_setpoint.ensures

pub returns-in-Current : goal.returns-in-Current
unfolding outcome_item field_bytes
returns-in-Current c = rw c.in-Current.is c.put_current.ensures

pub returns-in-Success : goal.returns-in-Success
unfolding outcome_item field_bytes
returns-in-Success c = rw c.in-Success.is c.put_success.ensures
