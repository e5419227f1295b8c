-- What is left to write makes the same of both slices as the whole does.
use Prim.Native.Nat.{◌-◌}
use lib.ListN.{length}
use Rattle.rescue_walk.proofs.Writings.{Writing}
use Rattle.rescue_walk.proofs.writes.write.Given as goal

abbrev pub invariant-loop-c : goal.invariant-loop-c
invariant-loop-c l = Writing l.s l.initial.out l.initial.report l.out l.report l.c

abbrev pub decreases-loop-c : goal.decreases-loop-c
decreases-loop-c l = length l.s - l.c.at
