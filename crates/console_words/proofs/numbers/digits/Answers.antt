-- The value so far and the digits left make the number.
use native.Mathlib.Omega.{arith}
use Rattle.std.proofs.Common.{rules}
use Rattle.console_words.specs.Numbers.{is_digit}
use Rattle.console_words.proofs.Digits.{digits_none, digits_start, digits_broken, digits_turn, digits_end}
use Rattle.console_words.proofs.numbers.digits.Goals as goal

pub returns-then-is_empty : goal.returns-then-is_empty
returns-then-is_empty c = digits_none c.args.word.now (search rules)

pub loop-b-init : goal.loop-b-init
loop-b-init c = digits_start c.args.word.now (search rules)

pub returns-then-not-is_ascii_digit : goal.returns-then-not-is_ascii_digit
unfolding is_digit
returns-then-not-is_ascii_digit c =
    digits_broken c.args.word.now _ c.loop-b.value c.loop-b.b-index c.loop-b.invariant (omega arith) (search rules)

pub loop-b-preserved : goal.loop-b-preserved
unfolding is_digit
loop-b-preserved c =
    digits_turn c.args.word.now _ c.loop-b.value c.loop-b.b-index c.loop-b.invariant _ (omega arith) (search rules) c.with_digit-value.ensures

pub returns : goal.returns
returns c = digits_end c.args.word.now _ c.loop-b.value c.loop-b.b-index c.loop-b.invariant (omega arith)
