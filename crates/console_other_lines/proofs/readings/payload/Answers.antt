-- The number, the payload, the flows, the end.
use mathlib.Core.Path.{◌∙◌}
use Rattle.console_other_lines.proofs.Measured.{answered}
use Rattle.console_other_lines.proofs.readings.payload.Goals as goal

pub returns : goal.returns
returns c =
    let both =
    answered _ _ _ _ _ (c.number_in-number.ensures ∙ c.read_measurement.ensures.value) c.read_measurement.ensures.words_after _ _ _ _ _ _ _ _ _ _
    (c.put_decimal-p.ensures.value, c.put_decimal-p.ensures.out_after) (c.put_byte-q.ensures.value, c.put_byte-q.ensures.out_after) (
      c.put_again-r.ensures.value,
      c.put_again-r.ensures.out_after,
    ) (c.put_flows-t.ensures.value, c.put_flows-t.ensures.out_after) (c.put_end.ensures.value, c.put_end.ensures.out_after) in
    record { value = both.0; out_after = both.1 }
