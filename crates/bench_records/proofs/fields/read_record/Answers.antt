-- Each return stands under the tests of its choice in the definition.
use mathlib.Core.Path.{◌∙◌}
use Rattle.bench_records.proofs.Scans.{cut-head, no_mark, wrong_body, told}
use Rattle.bench_records.proofs.fields.read_record.Goals as goal

pub returns-then-not-has_room : goal.returns-then-not-has_room
returns-then-not-has_room c = cut-head c.args.s.now c.args.at _ c.has_room.ensures c.if-not-has_room.true

pub returns-then-not-is_mark : goal.returns-then-not-is_mark
returns-then-not-is_mark c = no_mark c.args.s.now c.args.at _ c.is_mark.ensures c.if-not-is_mark.true

pub returns-then-not-is_right_body : goal.returns-then-not-is_right_body
returns-then-not-is_right_body c =
    wrong_body c.args.s.now c.args.at _ c.fields_at-r.ensures.value _ c.is_right_body.ensures c.if-not-is_right_body.true

pub returns : goal.returns
returns c =
    c.then_some.ensures ∙ told c.args.s.now c.args.at _ c.fields_at-r.ensures.value _ _ _ c.is_mark.ensures c.if-not-is_mark.false
    c.is_right_body.ensures c.if-not-is_right_body.false c.has_room-2.ensures
