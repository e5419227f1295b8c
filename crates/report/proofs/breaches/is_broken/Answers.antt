-- A place among the bits is judged by its group, and a later one by its row.
use Prim.Native.Nat.{◌-◌}
use mathlib.Core.Path.{◌∙◌}
use native.Mathlib.Omega.{arith}
use Rattle.report.specs.Sizes.{bit_pairs}
use Rattle.report.proofs.Candidates.{bit-broken, row-broken}
use Rattle.report.proofs.breaches.is_broken.Goals as goal

pub returns-then-k-lt-BIT_PAIRS : goal.returns-then-k-lt-BIT_PAIRS
returns-then-k-lt-BIT_PAIRS c = c.broken_bit.ensures ∙ bit-broken c.args.i _ c.args.k c.if-k-lt-BIT_PAIRS.true

pub returns : goal.returns
returns c =
    c.lacks_attribute.ensures ∙ row-broken c.args.i _ (c.args.k - bit_pairs) c.args.k (omega arith) (omega arith)
