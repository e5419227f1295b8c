-- The two words are those of the definition; p + 2 * q + 1 is small, so no sum overflows.
use Rattle.device_store.specs.Words.{held_in}
use Rattle.device_store.proofs.lenses.held_in.Goals as goal

pub returns : goal.returns
unfolding held_in
returns c = rw (c.word.ensures, c.word-2.ensures)
