-- What is seen of a payload that is one item is what its map has.
use mathlib.Core.Path.{sym, ap, ◌∙◌}
use native.Mathlib.Omega.{arith}
use Rattle.wire_prefix.proofs.Framed.{long_enough, rest_all}
use Rattle.wire_responses.specs.Seen.{answer_seen}
use Rattle.wire_responses.proofs.Answered.{not-framed, not-item, is_item, body_reads}
use Rattle.wire_responses.proofs.reading.read_answer.Goals as goal

pub returns-then-not-is_framed : goal.returns-then-not-is_framed
returns-then-not-is_framed c = not-framed c.args.command c.args.frame.now _ c.is_framed.ensures c.if-not-is_framed.true

pub slice_bounds-payload-count : goal.slice_bounds-payload-count
slice_bounds-payload-count c =
    omega (arith, long_enough c.args.frame.now _ c.is_framed.ensures c.if-not-is_framed.false)

pub slice_bounds-payload-start : goal.slice_bounds-payload-start
slice_bounds-payload-start c =
    omega (arith, long_enough c.args.frame.now _ c.is_framed.ensures c.if-not-is_framed.false)

pub returns-then-not-scan : goal.returns-then-not-scan
returns-then-not-scan c =
    not-item c.args.command c.args.frame.now _ c.is_framed.ensures c.if-not-is_framed.false _ (rest_all c.args.frame.now) _
    c.scan.ensures.value c.if-not-scan.true

pub returns-in-Some : goal.returns-in-Some
returns-in-Some c =
    ap answer_seen (sym c.in-Some.is ∙ c.read_body.ensures)
    ∙ is_item c.args.command c.args.frame.now _ c.is_framed.ensures c.if-not-is_framed.false _ (rest_all c.args.frame.now) _
    c.scan.ensures.value _ c.scan.ensures.heads_after _ (body_reads _ _) c.if-not-scan.false

pub returns-in-None : goal.returns-in-None
returns-in-None c =
    ap answer_seen (sym c.in-None.is ∙ c.read_body.ensures)
    ∙ is_item c.args.command c.args.frame.now _ c.is_framed.ensures c.if-not-is_framed.false _ (rest_all c.args.frame.now) _
    c.scan.ensures.value _ c.scan.ensures.heads_after _ (body_reads _ _) c.if-not-scan.false
