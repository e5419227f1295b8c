-- Each way out is one test of `received`, in its order.
use native.Mathlib.Omega.{arith}
use Rattle.receiver.proofs.Counts.{end_known}
use Rattle.receiver.proofs.Tests.{via, at_small_room, at_not_open, at_taken, known-good, decides_refused, decides_accepted}
use Rattle.receiver.proofs.calls.decide.Goals as goal

pub returns-then-room-lt-FRAME : goal.returns-then-room-lt-FRAME
returns-then-room-lt-FRAME c =
    let both =
    decides_refused c.args.r c.args.room.now c.args.scrap.now 15 c.args.r _ (at_small_room c.args.r c.args.room.now c.args.scrap.now c.if-room-lt-FRAME.true) (c.refuse.ensures.answer_value, c.refuse.ensures.after_value) in
    record { answer_value = both.0; after_value = both.1 }

pub returns-then-not-is_open : goal.returns-then-not-is_open
returns-then-not-is_open c =
    let shows = via c.is_open.ensures c.if-not-is_open.true in
    let both =
    decides_refused c.args.r c.args.room.now c.args.scrap.now 1 c.args.r _ (at_not_open c.args.r c.args.room.now c.args.scrap.now c.if-room-lt-FRAME.false shows)
    (c.refuse-then-not-is_open.ensures.answer_value, c.refuse-then-not-is_open.ensures.after_value) in
    record { answer_value = both.0; after_value = both.1 }

pub overflow_sub-r : goal.overflow_sub-r
overflow_sub-r c =
    let shows = via c.is_open.ensures c.if-not-is_open.false in
    let k = known-good c.args.r c.args.room.now c.args.scrap.now shows c.if-r-eq0.false in
    omega (arith, k.0)

pub returns : goal.returns
returns c =
    let shows = via c.is_open.ensures c.if-not-is_open.false in
    let k = known-good c.args.r c.args.room.now c.args.scrap.now shows c.if-r-eq0.false in
    let all = at_taken c.args.r c.args.room.now c.args.scrap.now c.if-room-lt-FRAME.false shows _ (end_known c.args.r c.args.room.now c.args.scrap.now c.if-r-eq0.false) k.1 _
    c.min-n.ensures in
    let both =
    decides_accepted c.args.r c.args.room.now c.args.scrap.now _ _ _ all (c.accept.ensures.answer_value, c.accept.ensures.after_value) in
    record { answer_value = both.0; after_value = both.1 }
