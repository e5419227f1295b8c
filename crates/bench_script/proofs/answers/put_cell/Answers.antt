-- A negative number is a dash, any other its digits.
use mir.Facts.{to_z-of_z}
use Rattle.bench_script.proofs.Printing.{cell-absent, cell-number}
use Rattle.bench_script.proofs.answers.put_cell.Goals as goal

pub returns-then-n-lt0 : goal.returns-then-n-lt0
returns-then-n-lt0 c =
    let e = cell-absent c.args.n (rw (to_z-of_z c.ranges.n) at c.if-n-lt0.true) in
    record {
      value = rw (← e) c.put_byte.ensures.value;
      out_after = rw (← e) c.put_byte.ensures.out_after;
    }

pub returns : goal.returns
returns c =
    let e = cell-number c.args.n (rw (to_z-of_z c.ranges.n) at c.if-n-lt0.false) in
    record {
      value = rw (← e) (rw (to_z-of_z c.ranges.n) at c.put_decimal.ensures.value);
      out_after = rw (← e) (rw (to_z-of_z c.ranges.n) at c.put_decimal.ensures.out_after);
    }
