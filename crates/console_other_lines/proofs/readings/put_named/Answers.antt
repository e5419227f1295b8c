-- The name, then the way.
use Rattle.console_other_lines.proofs.Measured.{named}
use Rattle.console_other_lines.proofs.readings.put_named.Goals as goal

pub returns : goal.returns
returns c =
    let both =
    named _ _ _ _ _ _ _ _ (c.put_bytes-p.ensures.value, c.put_bytes-p.ensures.out_after) (c.put_bytes.ensures.value, c.put_bytes.ensures.out_after) in
    record { value = both.0; out_after = both.1 }
