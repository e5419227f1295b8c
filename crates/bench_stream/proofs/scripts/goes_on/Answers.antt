-- Both tests are the definition's.
use borrow.Author.Tests.{lt-ltb, le-ltb}
use Rattle.bench_stream.specs.Ready.{goes_on}
use Rattle.bench_stream.proofs.scripts.goes_on.Goals as goal

pub returns-then-p-gt0 : goal.returns-then-p-gt0
unfolding goes_on
returns-then-p-gt0 c = rw (lt-ltb 0 c.args.p.from c.if-p-gt0.true)

pub returns-else-p-gt0 : goal.returns-else-p-gt0
unfolding goes_on
returns-else-p-gt0 c = rw (le-ltb 0 c.args.p.from c.if-p-gt0.false)
