-- To change no slot and keep `since` is to store the override and the clock alone.
use Rattle.device_store.proofs.Stores.{head-stored}
use Rattle.device_store.proofs.puts.apply_head.Goals as goal

pub returns : goal.returns
returns c = rw (c.put_word-2.ensures, c.put_word.ensures) (head-stored _ _ _)
