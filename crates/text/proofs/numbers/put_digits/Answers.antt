-- From the last digit to the first, what is left to put makes the whole.
use Prim.Native.Nat.{◌-◌}
use mathlib.Core.Path.{sym, ◌∙◌}
use native.Mathlib.Omega.{arith}
use Rattle.text.proofs.Digits.{put_last, put-nothing}
use Rattle.text.proofs.numbers.put_digits.Goals as goal

pub loop-i-preserved : goal.loop-i-preserved
loop-i-preserved c = put_last c.loop-i.out c.args.at c.loop-i.i (c.loop-i.i - 1) c.loop-i.rest (omega arith) ∙ c.loop-i.invariant

pub returns : goal.returns
returns c = sym (put-nothing c.loop-i.out c.args.at c.loop-i.i c.loop-i.rest (omega arith)) ∙ c.loop-i.invariant
