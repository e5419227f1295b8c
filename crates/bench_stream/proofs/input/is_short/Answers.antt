-- Both tests are the definition's.
use borrow.Author.Tests.{lt-ltb, le-ltb}
use Rattle.bench_stream.specs.Buffer.{is_short}
use Rattle.bench_stream.proofs.input.is_short.Goals as goal

pub returns-then-to-lt-LONGEST : goal.returns-then-to-lt-LONGEST
unfolding is_short
returns-then-to-lt-LONGEST c = rw (lt-ltb _ _ c.if-to-lt-LONGEST.true)

pub returns-else-to-lt-LONGEST : goal.returns-else-to-lt-LONGEST
unfolding is_short
returns-else-to-lt-LONGEST c = rw (le-ltb _ _ c.if-to-lt-LONGEST.false)
