-- Word 12 is the one that `settings_of` reads for it.
use Rattle.device_store.specs.Words.{settings_of}
use Rattle.device_store.proofs.lenses.is_manager.Goals as goal

pub returns : goal.returns
unfolding settings_of
returns c = rw c.word.ensures
