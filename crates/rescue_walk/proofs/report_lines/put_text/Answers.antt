-- Each return has the text of its case.
use native.Mathlib.Omega.{arith}
use Rattle.rescue_walk.proofs.Pairs.{says-refused, says-lines, says_all}
use Rattle.rescue_walk.proofs.report_lines.put_text.Goals as goal

pub returns-then-number-ne0 : goal.returns-then-number-ne0
returns-then-number-ne0 c =
    rw (← says-refused c.args.number c.args.runs c.args.report.now c.if-number-ne0.true)
    (record { value = c.put_refusal.ensures.value; out_after = c.put_refusal.ensures.out_after })

pub returns-then-runs-report : goal.returns-then-runs-report
returns-then-runs-report c =
    rw (← says-lines c.args.number c.args.runs c.args.report.now c.if-number-ne0.false)
    (record { value = c.put_lines.ensures.value; out_after = c.put_lines.ensures.out_after })

pub returns : goal.returns
returns c =
    rw (← says_all c.args.number c.args.runs c.args.report.now c.if-number-ne0.false (omega (arith, c.if-runs-report.false)))
    (record { value = c.put_lines-2.ensures.value; out_after = c.put_lines-2.ensures.out_after })
