-- The four stores are those of `applied`, in its order.
use Rattle.device_store.specs.Words.{applied}
use Rattle.device_store.proofs.puts.apply.Goals as goal

pub returns : goal.returns
unfolding applied
returns c = rw (c.put_word-3.ensures, c.put_word-2.ensures, c.put_word.ensures, c.put_zone.ensures)
