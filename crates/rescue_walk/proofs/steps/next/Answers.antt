-- A record ends behind its body; where none starts the run ends behind its last byte.
use Rattle.rescue_walk.proofs.Loops.{run_is, not-before, record_is}
use Rattle.rescue_walk.proofs.steps.next.Goals as goal

pub overflow_sub-result : goal.overflow_sub-result
overflow_sub-result c = not-before c.args.s.now c.args.c _ c.record_end.ensures _ c.in-Some.is

pub returns-in-Some : goal.returns-in-Some
returns-in-Some c = record_is c.args.s.now c.args.c _ c.record_end.ensures _ c.in-Some.is

pub returns-in-None : goal.returns-in-None
returns-in-None c = run_is c.args.s.now c.args.c _ c.record_end.ensures c.in-None.is _ c.run_end.ensures
