-- What was put and what is left from each byte on make the whole.
use mathlib.Core.Path.{◌∙◌}
use native.Mathlib.Omega.{arith}
use Rattle.text.proofs.Hexes.{pair_more, pair_none}
use Rattle.text.proofs.pairs.put_pairs.Goals as goal

pub loop-i-preserved : goal.loop-i-preserved
loop-i-preserved c = pair_more c.loop-i.out c.args.bytes.now c.args.at c.loop-i.i _ c.loop-i-test.true c.put_pair.ensures ∙ c.loop-i.invariant

pub returns : goal.returns
returns c = pair_none c.loop-i.out c.args.bytes.now c.args.at c.loop-i.i (omega arith) ∙ c.loop-i.invariant
