-- By the case.
use Rattle.wire_fields.proofs.Added.{count_none, one_count}
use Rattle.wire_requests.proofs.Encoded.{clear_is}
use mathlib.Core.Path.{sym}
use Rattle.wire_requests.specs.WrittenRequests.{command_fields}
use Rattle.wire_requests.proofs.writing.count_command.Goals as goal

pub returns-in-SetLimit : goal.returns-in-SetLimit
unfolding command_fields
returns-in-SetLimit c = rw (c.in-SetLimit.is, ← c.setting_of_limits.ensures) c.count_setting.ensures

pub returns-in-SetSetpoint : goal.returns-in-SetSetpoint
unfolding command_fields
returns-in-SetSetpoint c =
    rw (c.in-SetSetpoint.is, ← c.setting_of_setpoints.ensures) c.count_setting-in-SetSetpoint.ensures

pub returns-in-SetCurrentLimits : goal.returns-in-SetCurrentLimits
unfolding command_fields
returns-in-SetCurrentLimits c = rw c.in-SetCurrentLimits.is c.count_current_limits.ensures

pub returns-in-ClearLimit : goal.returns-in-ClearLimit
returns-in-ClearLimit c = rw (clear_is c.args.c c.in-ClearLimit.a c.in-ClearLimit.is) (one_count 1 _ _ c.count_amount.ensures)

pub returns-in-Unserved : goal.returns-in-Unserved
unfolding command_fields
returns-in-Unserved c = rw c.in-Unserved.is (sym count_none)
