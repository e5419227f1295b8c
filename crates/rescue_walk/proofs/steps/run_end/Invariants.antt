-- No record starts from `at` up to where the loop stands.
use Rattle.rescue_walk.proofs.Loops.{RunOn}
use Rattle.rescue_walk.proofs.steps.run_end.Given as goal

abbrev pub invariant-loop-e : goal.invariant-loop-e
invariant-loop-e l = RunOn l.s l.at l.e
