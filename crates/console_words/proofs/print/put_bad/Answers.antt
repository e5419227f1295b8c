-- The nine bytes are put whole.
use Rattle.console_words.specs.Answers.{bad_line}
use Rattle.console_words.proofs.print.put_bad.Goals as goal

pub returns : goal.returns
unfolding bad_line
returns c =
    record { value = c.put_bytes.ensures.value; out_after = c.put_bytes.ensures.out_after }
