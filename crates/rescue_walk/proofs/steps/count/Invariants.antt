-- What was counted and what is left make up the whole.
use Prim.Native.Nat.{◌-◌}
use lib.ListN.{length}
use Rattle.rescue_walk.proofs.Loops.{Counting}
use Rattle.rescue_walk.proofs.steps.count.Given as goal

abbrev pub invariant-loop-c : goal.invariant-loop-c
invariant-loop-c l = Counting l.s l.c

abbrev pub decreases-loop-c : goal.decreases-loop-c
decreases-loop-c l = length l.s - l.c.at
