-- The library moves the bytes as the definition says.
use mathlib.Core.Path.{◌∙◌}
use Rattle.bench_stream.proofs.Moves.{moved_all}
use Rattle.bench_stream.proofs.input.shift.Goals as goal

pub returns : goal.returns
returns c = c.copy_within.ensures.after ∙ moved_all c.args.buf.now c.args.from c.args.to c.requires.0 c.requires.1
