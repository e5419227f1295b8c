-- The tests are those of the definition.
use borrow.Author.Tests.{lt-ltb, le-ltb, lt-leb, le-leb}
use Rattle.wire_heads.specs.Forms.{held_at}
use Rattle.wire_heads.proofs.reading.held.Goals as goal

pub returns-then-s-at : goal.returns-then-s-at
unfolding held_at
returns-then-s-at c = rw (lt-leb _ _ c.if-s-at.true)

pub returns-then-value-least : goal.returns-then-value-least
unfolding held_at
returns-then-value-least c = rw (le-leb _ _ c.if-s-at.false, ← c.number-value.ensures, lt-ltb _ _ c.if-value-least.true)

pub returns : goal.returns
unfolding held_at
returns c = rw (le-leb _ _ c.if-s-at.false, ← c.number-value.ensures, le-ltb _ _ c.if-value-least.false)
