-- No row passed over has the name.
use mathlib.Core.Path.{◌≡◌}
use lib.ListN.{drop}
use Rattle.console_line.specs.Commands.{said, found}
use Rattle.console_line.proofs.commands.row_of.Given as goal

abbrev pub invariant-loop-name : goal.invariant-loop-name
invariant-loop-name l = found (drop l.name-index (said l.rows)) l.word ≡ found (said l.rows) l.word
