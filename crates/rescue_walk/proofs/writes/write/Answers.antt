-- What is left to write makes the same of both slices as the whole does.
use mathlib.Core.Path.{◌≡◌}
use borrow.Author.Rules.{rules}
use Rattle.rescue_walk.proofs.Writings.{writing_none, writing_room, writing_less, writing_next, writing_all}
use Rattle.rescue_walk.proofs.writes.write.Goals as goal

pub loop-c-init : goal.loop-c-init
loop-c-init c =
    let e : c.default-c.result ≡ record { at = 0; kept = 0; runs = 0 } = search rules in
    rw e (writing_none c.args.s.now c.args.out.now c.args.report.now)

pub put_piece-c-requires : goal.put_piece-c-requires
put_piece-c-requires c =
    writing_room c.args.s.now c.args.out.now c.args.report.now (c.requires) _ _ _ c.loop-c.invariant c.loop-c-test.true

pub loop-c-smaller : goal.loop-c-smaller
loop-c-smaller c =
    writing_less c.args.s.now c.args.out.now c.args.report.now (c.requires) _ _ _ c.loop-c.invariant c.loop-c-test.true _ c.put_piece-c.ensures.value

pub loop-c-preserved : goal.loop-c-preserved
loop-c-preserved c =
    writing_next c.args.s.now c.args.out.now c.args.report.now (c.requires) _ _ _ c.loop-c.invariant c.loop-c-test.true _ _ _ (search rules)
    (search rules) (c.put_piece-c.ensures.value, (c.put_piece-c.ensures.out_after, c.put_piece-c.ensures.report_after))

pub returns : goal.returns
returns c =
    let both =
    writing_all c.args.s.now c.args.out.now c.args.report.now (c.requires) _ _ _ c.loop-c.invariant c.loop-c-test.false in
    record { out_after = both.0; report_after = both.1 }
