-- By what was read of the word.
use Rattle.console_other_lines.proofs.Measured.{line-bad, line-good}
use Rattle.console_other_lines.proofs.readings.meas.Goals as goal

pub returns-in-Some : goal.returns-in-Some
returns-in-Some c =
    let both =
    line-good _ _ _ _ c.read_hex.ensures.value c.read_hex.ensures.out_after _ _ _ _ _ c.in-Some.is (c.payload.ensures.value, c.payload.ensures.out_after) in
    record { value = both.0; out_after = both.1.0; bytes_after = both.1.1 }

pub returns-in-None : goal.returns-in-None
returns-in-None c =
    let both =
    line-bad _ _ _ _ c.read_hex.ensures.value c.read_hex.ensures.out_after _ _ _ _ c.in-None.is (c.put_bad.ensures.value, c.put_bad.ensures.out_after) in
    record { value = both.0; out_after = both.1.0; bytes_after = both.1.1 }
