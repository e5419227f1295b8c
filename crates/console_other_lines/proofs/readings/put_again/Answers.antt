-- What the writer left is shown, or a dash.
use Rattle.console_other_lines.proofs.Measured.{again-written, again-refused}
use Rattle.console_other_lines.proofs.readings.put_again.Goals as goal

pub returns-then-number-eq0 : goal.returns-then-number-eq0
returns-then-number-eq0 c =
    rw (again-written _ _ _ _ c.if-number-eq0.true c.write_measurement-w.ensures.value c.write_measurement-w.ensures.out_after) (record {
      value = c.put_hex_or_none.ensures.value;
      out_after = c.put_hex_or_none.ensures.out_after;
    })

pub returns : goal.returns
returns c =
    rw (again-refused _ _ c.if-number-eq0.false) (record {
      value = c.put_byte.ensures.value;
      out_after = c.put_byte.ensures.out_after;
    })
