-- By the case.
use native.Mathlib.Omega.{arith}
use mathlib.Core.Path.{sym}
use Rattle.wire_requests.specs.WrittenRequests.{command_fields}
use Rattle.wire_fields.proofs.Added.{fields_none, fields_one, puts_none, puts_wider, puts_same}
use Rattle.wire_requests.specs.Sizes.{params_room}
use Rattle.wire_requests.proofs.Encoded.{clear_is}
use Rattle.wire_requests.proofs.writing.put_command.Goals as goal

pub returns-in-SetLimit : goal.returns-in-SetLimit
unfolding command_fields
returns-in-SetLimit c = rw (c.in-SetLimit.is, ← c.setting_of_limits.ensures) c.put_setting.ensures

pub returns-in-SetSetpoint : goal.returns-in-SetSetpoint
unfolding command_fields
returns-in-SetSetpoint c =
    rw (c.in-SetSetpoint.is, ← c.setting_of_setpoints.ensures) c.put_setting-in-SetSetpoint.ensures

pub returns-in-SetCurrentLimits : goal.returns-in-SetCurrentLimits
unfolding command_fields
returns-in-SetCurrentLimits c = rw c.in-SetCurrentLimits.is c.put_current_limits.ensures

pub returns-in-ClearLimit : goal.returns-in-ClearLimit
returns-in-ClearLimit c =
    rw (clear_is c.args.c c.in-ClearLimit.a c.in-ClearLimit.is) (puts_wider params_room (omega arith) (puts_same (sym (fields_one 1 _)) c.put_amount.ensures.puts))

pub returns-in-Unserved : goal.returns-in-Unserved
unfolding command_fields
returns-in-Unserved c =
    rw c.in-Unserved.is (puts_same (sym fields_none) (puts_none c.args.out.now c.args.at _))
