-- Each way out is one test of `received`, behind those that are made already.
use mathlib.Core.Path.{◌∙◌}
use native.Mathlib.Omega.{arith}
use Rattle.receiver.specs.Receive.{shut}
use Rattle.receiver.proofs.Counts.{few, end-new}
use Rattle.receiver.proofs.Tests.{via, at_bad, at_taken, before_end, decides_refused, decides_accepted}
use Rattle.receiver.proofs.calls.at_prefix.Goals as goal

pub end_of-end-requires : goal.end_of-end-requires
end_of-end-requires c = (few c.args.r c.requires.0 c.requires.2, omega (arith, c.requires.1))

pub returns-then-is_bad_end : goal.returns-then-is_bad_end
returns-then-is_bad_end c =
    let end = c.end_of-end.ensures ∙ end-new c.args.r c.args.room.now c.args.scrap.now c.requires.2 in
    let bad = via c.is_bad_end.ensures c.if-is_bad_end.true in
    let both =
    decides_refused c.args.r c.args.room.now c.args.scrap.now 1 shut _ (at_bad c.args.r c.args.room.now c.args.scrap.now c.requires.1 c.requires.0 _ end bad) (c.refuse.ensures.answer_value, c.refuse.ensures.after_value) in
    record { answer_value = both.0; after_value = both.1 }

pub overflow_sub-end : goal.overflow_sub-end
overflow_sub-end c =
    let end = c.end_of-end.ensures ∙ end-new c.args.r c.args.room.now c.args.scrap.now c.requires.2 in
    let good = via c.is_bad_end.ensures c.if-is_bad_end.false in
    let l = before_end c.args.r c.args.room.now c.args.scrap.now c.requires.1 c.requires.0 _ end good in
    omega arith

pub returns : goal.returns
returns c =
    let end = c.end_of-end.ensures ∙ end-new c.args.r c.args.room.now c.args.scrap.now c.requires.2 in
    let good = via c.is_bad_end.ensures c.if-is_bad_end.false in
    let both =
    decides_accepted c.args.r c.args.room.now c.args.scrap.now _ _ _ (at_taken c.args.r c.args.room.now c.args.scrap.now c.requires.1 c.requires.0 _ end good _ c.min-n.ensures)
    (c.accept.ensures.answer_value, c.accept.ensures.after_value) in
    record { answer_value = both.0; after_value = both.1 }
