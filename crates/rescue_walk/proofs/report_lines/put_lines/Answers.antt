-- What was put and what is left from each run on make the whole.
use Prim.Native.Nat.{◌*◌}
use native.Mathlib.Omega.{arith}
use Rattle.text.proofs.Pieces.{run-done, all_done}
use Rattle.rescue_walk.proofs.Pairs.{two_next, lines_over}
use Rattle.rescue_walk.proofs.report_lines.put_lines.Goals as goal

pub loop-offset-preserved : goal.loop-offset-preserved
loop-offset-preserved c =
    let next = two_next c.args.report.now _ c.as_chunks.ensures.front c.loop-offset.offset-index (omega (arith, c.loop-offset-test.true, c.as_chunks.ensures.front_len)) in
    run-done _ _ _ _ _ _ _ _ _ (rw next at c.loop-offset.invariant) (c.put_line-p.ensures.value, c.put_line-p.ensures.out_after)

pub returns : goal.returns
returns c =
    let over = lines_over c.args.report.now (2 * c.loop-offset.offset-index) (omega (arith, c.loop-offset-test.false, c.as_chunks.ensures.front_len)) in
    let both = all_done _ _ _ _ _ _ c.loop-offset.invariant over in
    record { value = both.0; out_after = both.1 }
