-- All zero, and then the words that `setting_words` gives, from the settings' place on.
use Rattle.device_store.specs.Words.{fresh}
use Rattle.device_store.proofs.puts.fresh.Goals as goal

pub returns : goal.returns
unfolding fresh
returns c = rw (c.put_settings.ensures, c.setting_words.ensures)
