-- What was counted and what is left from each place on make the whole.
use Prim.Native.Nat.{◌≤◌}
use Rattle.report.specs.Lists.{flagged}
use Rattle.report.proofs.Counts.{Counted}
use Rattle.report.proofs.breaches.count.Given as goal

abbrev pub invariant-loop-k : goal.invariant-loop-k
invariant-loop-k l = (l.n ≤ l.k) × Counted l.i (flagged l.listed) l.n l.k
