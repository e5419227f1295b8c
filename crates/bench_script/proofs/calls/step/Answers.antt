-- A bad record runs nothing; any other runs, and the next stands behind its body.
use mathlib.Core.Path.{sym, ◌∙◌}
use native.Mathlib.Omega.{arith}
use Rattle.bench_records.proofs.Scans.{record_within}
use Rattle.bench_script.proofs.Steps.{step-good, step-bad}
use Rattle.bench_script.proofs.calls.step.Goals as goal

pub returns-in_err-r : goal.returns-in_err-r
returns-in_err-r c =
    let both =
    step-bad c.args.d.now c.args.s.now c.args.at c.args.out.now c.args.rows.now (sym c.in_err-r.ensures) in
    record { value = c.from_residual.ensures ∙ both.0; d_after = both.1.0; out_after = both.1.1.0; rows_after = both.1.1.1 }

pub run_record-x-requires : goal.run_record-x-requires
run_record-x-requires c = (record_within c.args.s.now c.args.at _ (sym c.in_ok-r.ensures)).1

pub overflow_add-result : goal.overflow_add-result
overflow_add-result c = omega (arith, (record_within c.args.s.now c.args.at _ (sym c.in_ok-r.ensures)).1)

pub returns : goal.returns
returns c =
    let both =
    step-good c.args.d.now c.args.s.now c.args.at c.args.out.now c.args.rows.now _ (sym c.in_ok-r.ensures) _ _ _ _ c.run_record-x.ensures in
    record { value = both.0; d_after = both.1.0; out_after = both.1.1.0; rows_after = both.1.1.1 }
