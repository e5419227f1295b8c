-- No row passed over has the name.
use mathlib.Core.Path.{◌∙◌}
use Rattle.console_line.proofs.Names.{row_here, row_other, row_none}
use Rattle.console_line.proofs.commands.row_of.Goals as goal

pub returns-then-same : goal.returns-then-same
returns-then-same c = row_here c.args.rows.now c.args.word.now c.loop-name.name-index _ _ c.loop-name.invariant c.loop-name-test.true c.same.ensures c.if-same.true

pub loop-name-preserved : goal.loop-name-preserved
loop-name-preserved c = row_other c.args.rows.now c.args.word.now c.loop-name.name-index _ _ c.loop-name.invariant c.loop-name-test.true c.same.ensures c.if-same.false

pub returns : goal.returns
returns c = c.unknown.ensures ∙ row_none c.args.rows.now c.args.word.now c.loop-name.name-index _ c.loop-name.invariant c.loop-name-test.false
