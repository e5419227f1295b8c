-- The mark stands in front of what follows `at`; past the end nothing does.
use mathlib.Core.Path.{◌∙◌}
use Rattle.bench_records.proofs.Scans.{mark-here, mark-past}
use Rattle.bench_records.proofs.fields.is_mark.Goals as goal

pub returns-then-at-s : goal.returns-then-at-s
returns-then-at-s c = c.starts_with.ensures.value ∙ mark-here c.args.s.now c.args.at

pub returns-else-at-s : goal.returns-else-at-s
returns-else-at-s c = mark-past c.args.s.now c.args.at c.if-at-s.false
