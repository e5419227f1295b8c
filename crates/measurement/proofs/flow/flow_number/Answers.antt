-- Each way has its number.
use Rattle.measurement.specs.Flow.{flow_number}
use Rattle.measurement.proofs.flow.flow_number.Goals as goal

pub returns-in-Absent : goal.returns-in-Absent
unfolding flow_number
returns-in-Absent c = rw c.in-Absent.is

pub returns-in-Neither : goal.returns-in-Neither
unfolding flow_number
returns-in-Neither c = rw c.in-Neither.is

pub returns-in-In : goal.returns-in-In
unfolding flow_number
returns-in-In c = rw c.in-In.is

pub returns-in-Out : goal.returns-in-Out
unfolding flow_number
returns-in-Out c = rw c.in-Out.is
