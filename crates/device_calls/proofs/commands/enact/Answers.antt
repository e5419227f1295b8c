-- Only a decision of number 0 is applied, with the words' own since and override.
use borrow.Author.Tests.{eq-eqb, ne_eqb}
use Rattle.device_store.specs.Words.{after}
use Rattle.device_calls.specs.Commands.{enacted}
use Rattle.device_calls.proofs.commands.enact.Goals as goal

pub returns-then-x-eq0 : goal.returns-then-x-eq0
unfolding enacted after
returns-then-x-eq0 c = rw (eq-eqb _ _ c.if-x-eq0.true, c.apply.ensures, c.since.ensures, c.overridden.ensures)

pub returns-else-x-eq0 : goal.returns-else-x-eq0
unfolding enacted after
returns-else-x-eq0 c = rw (ne_eqb _ _ c.if-x-eq0.false)
