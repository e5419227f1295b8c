-- The words passed over are not the word, and what is left of the line has the others.
use Rattle.console_words.proofs.Places.{is_here, is_none, is_behind}
use Rattle.console_words.proofs.spans.place.Goals as goal

pub returns-then-same : goal.returns-then-same
returns-then-same c =
    is_here _ _ _ _ c.loop-k.invariant _ c.next-end.ensures.value c.next-end.ensures.lower_bound _ c.same.ensures c.if-same.true

pub returns-then-line-end : goal.returns-then-line-end
returns-then-line-end c =
    is_none _ _ _ _ c.loop-k.invariant _ c.next-end.ensures.value c.next-end.ensures.lower_bound _ c.same.ensures c.if-same.false c.if-line-end.true

pub loop-k-preserved : goal.loop-k-preserved
loop-k-preserved c =
    is_behind _ _ _ _ c.loop-k.invariant _ c.next-end.ensures.value c.next-end.ensures.lower_bound _ c.same.ensures c.if-same.false c.if-line-end.false
