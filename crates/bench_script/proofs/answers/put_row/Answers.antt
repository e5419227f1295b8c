-- What was put and what is left of the row from each number on make the whole.
use mir.Val.{SFits}
use mir.Syntax.{w64}
use mir.Facts.{to_z-of_z}
use lib.IntN.{pos}
use lib.ListN.{get_or}
use native.Mathlib.Omega.{arith}
use borrow.Author.Rules.{rules}
use Rattle.text.proofs.Pieces.{all_done, two-done}
use Rattle.bench_script.proofs.Printing.{row_next, row-over}
use Rattle.bench_script.proofs.answers.put_row.Goals as goal

pub loop-i-preserved : goal.loop-i-preserved
loop-i-preserved c =
    let f : SFits w64 (get_or c.args.row.now c.loop-i.i (pos 0)) = search rules in (
      two-done _ _ _ _ _ _ _ _ _ _ _ _ (rw (row_next c.args.row.now c.loop-i.i c.loop-i-test.true) at c.loop-i.invariant.0)
          (rw (to_z-of_z f) at c.put_cell-p.ensures.value, rw (to_z-of_z f) at c.put_cell-p.ensures.out_after)
          (rw c.behind.ensures at c.put_byte-p.ensures.value, rw c.behind.ensures at c.put_byte-p.ensures.out_after),
      omega arith,
    )

pub returns : goal.returns
returns c =
    let both =
    all_done _ _ _ _ _ _ c.loop-i.invariant.0
    (row-over c.args.row.now c.loop-i.i c.loop-i.invariant.1 c.loop-i-test.false) in
    record { value = both.0; out_after = both.1 }
