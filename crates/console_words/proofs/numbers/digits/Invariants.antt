-- The value so far and the digits left make the number.
use mathlib.Core.Path.{◌≡◌}
use lib.ListN.{drop}
use Rattle.console_words.specs.Numbers.{digits_from, digits_of}
use Rattle.console_words.proofs.numbers.digits.Given as goal

abbrev pub invariant-loop-b : goal.invariant-loop-b
invariant-loop-b l = digits_from l.value (drop l.b-index l.word) ≡ digits_of l.word
