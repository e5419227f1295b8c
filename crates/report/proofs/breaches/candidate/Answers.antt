-- A place among the bits has its group and bit, and a later one its row.
use Prim.Native.Nat.{◌-◌}
use native.Mathlib.Omega.{arith}
use mathlib.Core.Path.{sym}
use Rattle.report.specs.Sizes.{bit_pairs}
use Rattle.report.proofs.Tables.{bit-pair, row_read}
use Rattle.report.proofs.breaches.candidate.Goals as goal

pub returns-then-k-lt-BIT_PAIRS : goal.returns-then-k-lt-BIT_PAIRS
returns-then-k-lt-BIT_PAIRS c = sym (bit-pair c.args.k c.if-k-lt-BIT_PAIRS.true)

pub returns : goal.returns
returns c = row_read (c.args.k - bit_pairs) c.args.k _ (omega arith) (omega arith) c.row_at-r.ensures
