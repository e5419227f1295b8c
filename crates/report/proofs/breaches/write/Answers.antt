-- What was written and what is left from each place on make the whole.
use mathlib.Core.Path.{◌∙◌}
use native.Mathlib.Omega.{arith}
use Rattle.report.proofs.Writes.{start, room_for, stored, passed, end}
use Rattle.report.proofs.breaches.write.Goals as goal
use Rattle.report.proofs.breaches.write.Goals.{then-is_broken, else-is_broken}

pub loop-k-init : goal.loop-k-init
loop-k-init c = (omega arith, start _ _ _ c.requires.candidates_in_bounds)

pub put-requires : goal.put-requires
put-requires c = room_for c.loop-k.invariant.1 (omega arith) c.is_broken.ensures c.if-is_broken.true

pub loop-k-preserved : goal.loop-k-preserved
loop-k-preserved c =
    elim c.if-is_broken.branch [
      | then-is_broken w ↦ (
        omega arith,
        stored c.loop-k.invariant.1 (omega arith) c.is_broken.ensures w.if-is_broken.true w.candidate.ensures (w.pairs-is ∙ w.put.ensures) w.at-is,
      )
      | else-is_broken w ↦ (
        omega arith,
        passed c.loop-k.invariant.1 (omega arith) c.is_broken.ensures w.if-is_broken.false w.pairs-is w.at-is,
      )
    ]

pub returns : goal.returns
returns c = end c.loop-k.invariant.1 (omega arith)
