-- Each end is stored where it fits, and the text left gives the ends left.
use native.Mathlib.Omega.{arith}
use Rattle.console_words.proofs.Ends.{none-stored, last_stored, one_stored, no_room}
use Rattle.console_words.proofs.spans.split.Goals as goal

pub loop-n-init : goal.loop-n-init
loop-n-init c = none-stored _ _

pub returns-then-line-end : goal.returns-then-line-end
returns-then-line-end c =
    let both =
    last_stored _ _ _ _ _ _ c.loop-n.invariant c.next-end.ensures.value (omega (arith, c.loop-n.invariant.len)) (omega (arith, c.next-end.ensures.upper_bound)) in
    record { value = both.0; ends_after = both.1 }

pub loop-n-preserved : goal.loop-n-preserved
loop-n-preserved c =
    one_stored _ _ _ _ _ _ c.loop-n.invariant c.next-end.ensures.value (omega (arith, c.loop-n.invariant.len)) c.next-end.ensures.lower_bound c.if-line-end.false

pub returns : goal.returns
returns c =
    let both =
    no_room _ _ _ _ _ c.loop-n.invariant (omega (arith, c.loop-n.invariant.len)) in
    record { value = both.0; ends_after = both.1 }
