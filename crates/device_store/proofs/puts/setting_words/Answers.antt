-- Each word is that of the definition, truths as 0 and 1.
use Rattle.device_store.specs.Words.{setting_words}
use Rattle.device_store.proofs.HeldWords.{bit-byte}
use Rattle.device_store.proofs.puts.setting_words.Goals as goal

pub returns : goal.returns
unfolding setting_words
returns c = rw (c.from.ensures, c.from-2.ensures, c.from-3.ensures, c.from-4.ensures, bit-byte c.args.s.limits, bit-byte c.args.s.setpoints, bit-byte c.args.s.manager, bit-byte c.args.s.currents)
