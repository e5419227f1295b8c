-- What is decided is what is copied.
use mathlib.Core.Path.{◌≡◌, ap, ◌∙◌}
use native.Mathlib.Numerals.{add-one}
use native.Mathlib.Omega.{arith}
use lib.Seq.{paste, paste-suc}
use Rattle.receiver.proofs.Tests.{stepped, one_taken}
use Rattle.receiver.proofs.calls.step.Goals as goal

pub bounds-scrap-i : goal.bounds-scrap-i
bounds-scrap-i c =
    (one_taken c.args.r c.args.room.now c.args.scrap.now c.decide-x.result (c.decide-x.ensures.answer_value, c.decide-x.ensures.after_value) c.loop-i.i c.loop-i-test.true).1

pub overflow_add-room : goal.overflow_add-room
overflow_add-room c =
    let one = one_taken c.args.r c.args.room.now c.args.scrap.now c.decide-x.result (c.decide-x.ensures.answer_value, c.decide-x.ensures.after_value) c.loop-i.i c.loop-i-test.true in
    record { fits = omega (arith, one.0) }

pub bounds-room-r : goal.bounds-room-r
bounds-room-r c =
    let one = one_taken c.args.r c.args.room.now c.args.scrap.now c.decide-x.result (c.decide-x.ensures.answer_value, c.decide-x.ensures.after_value) c.loop-i.i c.loop-i-test.true in
    omega (arith, one.0)

pub loop-i-preserved : goal.loop-i-preserved
loop-i-preserved c =
    let one = one_taken c.args.r c.args.room.now c.args.scrap.now c.decide-x.result (c.decide-x.ensures.answer_value, c.decide-x.ensures.after_value) c.loop-i.i c.loop-i-test.true in
    rw (c.loop-i.invariant, add-one c.loop-i.i) (paste-suc c.args.room.now c.args.r.have c.args.scrap.now c.loop-i.i 0 one.0 one.1)

pub returns : goal.returns
returns c =
    let end : c.loop-i.i ≡ c.decide-x.result.answer.taken = omega arith in
    stepped c.args.r c.args.room.now c.args.scrap.now c.decide-x.result (c.decide-x.ensures.answer_value, c.decide-x.ensures.after_value) c.loop-i.room
    (c.loop-i.invariant ∙ ap (paste c.args.room.now c.args.r.have c.args.scrap.now) end)
