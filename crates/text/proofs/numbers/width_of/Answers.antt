-- The power of ten at or below a number counts its digits but one; 0 has one digit.
use borrow.Author.Tests.{lt-ltb}
use Rattle.text.specs.Text.{width_in}
use Rattle.text.proofs.Digits.{width_log, width_zero}
use Rattle.text.proofs.numbers.width_of.Goals as goal

pub returns-in-Some-clause-value : goal.returns-in-Some-clause-value
returns-in-Some-clause-value c = width_log c.in-Some.power c.args.n c.in-Some.ensures.bound c.in-Some.ensures.power_le c.in-Some.ensures.next_power_gt

pub returns-in-None-clause-value : goal.returns-in-None-clause-value
returns-in-None-clause-value c = rw c.in-None.ensures.none width_zero

pub returns-then-n-lt10-clause-value : goal.returns-then-n-lt10-clause-value
unfolding width_in
returns-then-n-lt10-clause-value c = rw (lt-ltb c.args.n 10 c.if-n-lt10.true)
