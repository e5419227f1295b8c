-- What was put and what is left of the table from each row on make the whole.
use mathlib.Core.Path.{◌∙◌}
use Rattle.text.proofs.Pieces.{all_done, run-done}
use Rattle.bench_script.proofs.Printing.{table-next, table-over}
use Rattle.bench_script.proofs.answers.put_rows.Goals as goal

pub loop-row-preserved : goal.loop-row-preserved
loop-row-preserved c =
    let s = c.in-Some.ensures.steps in (
      run-done _ _ _ _ _ _ _ _ _ (rw (table-next _ _ _ _ _ _ s.1 c.loop-row.invariant.1 s.0.1.0 s.0.1.1) at c.loop-row.invariant.0)
          (c.put_row-p.ensures.value, c.put_row-p.ensures.out_after),
      s.0.0 ∙ c.loop-row.invariant.1,
    )

pub returns : goal.returns
returns c =
    let both =
    all_done _ _ _ _ _ _ c.loop-row.invariant.0 (table-over _ _ (λ h. (c.in-None.ensures.steps h).1.0)) in
    record { value = both.0; out_after = both.1 }
