-- Each field is the word of the definition, and truths are words above 0.
use Rattle.device_store.specs.Words.{settings_of}
use Rattle.device_store.proofs.lenses.settings_at.Goals as goal

pub returns : goal.returns
unfolding settings_of
returns c =
    rw (
      c.word.ensures,
      c.word-2.ensures,
      c.word-3.ensures,
      c.word-4.ensures,
      c.word-5.ensures,
      c.word-6.ensures,
      c.word-7.ensures,
      c.word-8.ensures,
      c.word-9.ensures,
      c.word-10.ensures,
      c.word-11.ensures,
      c.word-12.ensures,
    )
