-- One byte, or two and then two more at each turn: the loop holds the number of the bytes so far.
use native.Mathlib.Omega.{arith}
use Rattle.wire_bytes.proofs.NumberLaws.{all_bytes, number-one}
use Rattle.wire_heads.proofs.HeadSteps.{two-more, two-more_fit}
use Rattle.wire_heads.proofs.reading.number.Goals as goal

pub returns-then-width-eq1 : goal.returns-then-width-eq1
returns-then-width-eq1 c = rw c.if-width-eq1.true (number-one c.args.s.now c.args.at)

pub overflow_mul-n : goal.overflow_mul-n
overflow_mul-n c =
    omega (arith, two-more_fit c.args.s.now c.args.at c.loop-i.i _ c.loop-i.invariant.4 (all_bytes _ c.type_inv.s) (omega arith))

pub overflow_add-n : goal.overflow_add-n
overflow_add-n c =
    omega (arith, c.pair.ensures, two-more_fit c.args.s.now c.args.at c.loop-i.i _ c.loop-i.invariant.4 (all_bytes _ c.type_inv.s) (omega arith))

pub loop-i-preserved : goal.loop-i-preserved
loop-i-preserved c =
    (omega arith, omega arith, omega arith, c.loop-i.invariant.3, two-more c.args.s.now c.args.at c.loop-i.i _ c.loop-i.invariant.4 _ c.pair.ensures)
