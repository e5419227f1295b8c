-- What was written and what is left from each place on make the whole.
use Prim.Native.Nat.{◌*◌, ◌≤◌}
use Rattle.report.specs.Lists.{flagged}
use Rattle.report.proofs.Writes.{Written}
use Rattle.report.proofs.breaches.write.Given as goal

abbrev pub invariant-loop-k : goal.invariant-loop-k
invariant-loop-k l =
    (l.at ≤ 2 * l.k) × Written l.i (flagged l.listed) l.initial.pairs l.pairs l.at l.k
