-- What was counted and what is left from each place on make the whole.
use native.Mathlib.Omega.{arith}
use Rattle.report.proofs.Counts.{counted, passed, end}
use Rattle.report.proofs.breaches.count.Goals as goal
use Rattle.report.proofs.breaches.count.Goals.{then-is_broken, else-is_broken}

pub loop-k-preserved : goal.loop-k-preserved
loop-k-preserved c =
    elim c.if-is_broken.branch [
      | then-is_broken w ↦ (omega arith, counted c.loop-k.invariant.1 (omega arith) c.is_broken.ensures w.if-is_broken.true w.n-is)
      | else-is_broken w ↦ (omega arith, passed c.loop-k.invariant.1 (omega arith) c.is_broken.ensures w.if-is_broken.false w.n-is)
    ]

pub returns : goal.returns
returns c = end c.loop-k.invariant.1 (omega arith)
