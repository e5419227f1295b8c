-- Each return stands under the tests of its refusal, the last under none.
use Rattle.rescue_walk.proofs.Writings.{too_long_lem, no_output, no_report, has_room, rescued-is}
use Rattle.rescue_walk.proofs.scripts.rescue.Goals as goal
use Rattle.rescue_walk.proofs.scripts.rescue.Goals.{then-out-c-via-then-out-c, then-out-c-via-else-out-c+then-report-c}

pub returns-then-input-gt-SCRIPT : goal.returns-then-input-gt-SCRIPT
returns-then-input-gt-SCRIPT c =
    let both =
    too_long_lem c.args.input.now c.args.out.now c.args.report.now c.if-input-gt-SCRIPT.true _ c.refused.ensures in
    record { value = both.0; out_after = both.1.0; report_after = both.1.1 }

pub returns-then-out-c : goal.returns-then-out-c
returns-then-out-c c =
    elim c.then-out-c.branch [
      | then-out-c-via-then-out-c w ↦
          let both =
          no_output c.args.input.now c.args.out.now c.args.report.now c.if-input-gt-SCRIPT.false _ c.count-c.ensures.value w.if-out-c.true _
          c.refused-then-out-c.ensures in
          record { value = both.0; out_after = both.1.0; report_after = both.1.1 }
      | then-out-c-via-else-out-c+then-report-c w ↦
          let both =
          no_report c.args.input.now c.args.out.now c.args.report.now c.if-input-gt-SCRIPT.false _ c.count-c.ensures.value w.if-out-c.false
          w.if-report-c.true _ c.refused-then-out-c.ensures in
          record { value = both.0; out_after = both.1.0; report_after = both.1.1 }
    ]

pub write-requires : goal.write-requires
write-requires c =
    has_room c.args.input.now c.args.out.now c.args.report.now c.if-input-gt-SCRIPT.false _ c.count-c.ensures.value c.if-out-c.false c.if-report-c.false

pub returns : goal.returns
returns c =
    let both =
    rescued-is c.args.input.now c.args.out.now c.args.report.now c.if-input-gt-SCRIPT.false _ c.count-c.ensures.value c.if-out-c.false
    c.if-report-c.false _ _ (c.write.ensures.out_after, c.write.ensures.report_after) in
    record { value = both.0; out_after = both.1.0; report_after = both.1.1 }
