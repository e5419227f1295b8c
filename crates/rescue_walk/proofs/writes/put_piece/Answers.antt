-- The next piece is a record where no run more is counted, else a run.
use native.Mathlib.Omega.{arith}
use Rattle.rescue_walk.proofs.Writings.{goes_on_lem, copied_is, note_fits, noted-is}
use borrow.Author.Rules.{rules}
use Rattle.rescue_walk.proofs.writes.put_piece.Goals as goal

pub overflow_sub-n : goal.overflow_sub-n
overflow_sub-n c =
    goes_on_lem c.args.s.now c.args.out.now c.args.report.now c.args.c _ c.requires c.next-n.ensures

pub returns-then-n-c : goal.returns-then-n-c
returns-then-n-c c =
    let both =
    copied_is c.args.s.now c.args.out.now c.args.report.now c.args.c _ c.requires c.next-n.ensures c.if-n-c.true _
    c.put_bytes.ensures.out_after in
    record { value = both.0; out_after = both.1.0; report_after = both.1.1 }

pub overflow_sub-report : goal.overflow_sub-report
overflow_sub-report c =
    goes_on_lem c.args.s.now c.args.out.now c.args.report.now c.args.c _ c.requires c.next-n.ensures

pub bounds-report-i : goal.bounds-report-i
bounds-report-i c =
    let k = note_fits c.args.s.now c.args.out.now c.args.report.now c.args.c _ c.requires c.next-n.ensures c.if-n-c.false in
    omega (arith, k)

pub bounds-report-i-2 : goal.bounds-report-i-2
bounds-report-i-2 c =
    let k = note_fits c.args.s.now c.args.out.now c.args.report.now c.args.c _ c.requires c.next-n.ensures c.if-n-c.false in
    search (rules, k)

pub returns : goal.returns
returns c =
    let both =
    noted-is c.args.s.now c.args.out.now c.args.report.now c.args.c _ c.requires c.next-n.ensures c.if-n-c.false in
    record { value = both.0; out_after = both.1.0; report_after = both.1.1 }
