-- What was stored and what is left of the word from each number on make the whole.
use Rattle.std.proofs.Common.{rules}
use Rattle.std.specs.Prelude.{None}
use mathlib.Core.Path.{◌≡◌, refl, ◌∙◌}
use native.Mathlib.Omega.{arith}
use Rattle.std.proofs.lemmas.List.{set-get_or}
use Rattle.console_words.proofs.Attributes.{list_none, list_full, list_gap, list_broken, last-read, one_read}
use Rattle.console_words.proofs.lists.read_list.Goals as goal

pub returns-then-is_none : goal.returns-then-is_none
returns-then-is_none c =
    let both =
    list_none _ _ _ c.is_none.ensures c.if-is_none.true in
    record { value = both.0; within = omega arith; out_after = both.1 }

pub returns-in_err-number : goal.returns-in_err-number
returns-in_err-number c =
    let both =
    list_gap _ _ _ c.is_none.ensures c.if-is_none.false _ _ _ c.loop-n.invariant _ _ c.next-end.ensures.value c.number_in.ensures
    c.next-end.ensures.lower_bound c.next-end.ensures.upper_bound c.in_err-number.was in
    let e : c.from_residual.result ≡ None = search rules in
    record { value = e ∙ both.0; within = rw e tt; out_after = set-get_or c.loop-n.out c.loop-n.n 0 ∙ both.1 }

pub returns-in_err-place : goal.returns-in_err-place
returns-in_err-place c =
    let both =
    list_broken _ _ _ c.is_none.ensures c.if-is_none.false _ _ _ c.loop-n.invariant _ _ c.next-end.ensures.value c.number_in.ensures
    _ c.in_ok-number.was c.next-end.ensures.lower_bound c.next-end.ensures.upper_bound (rw c.in_err-place.was at c.attribute_of.ensures) in
    let e : c.from_residual-in_err-place.result ≡ None = search rules in
    record { value = e ∙ both.0; within = rw e tt; out_after = set-get_or c.loop-n.out c.loop-n.n 0 ∙ both.1 }

pub returns-then-word-end : goal.returns-then-word-end
returns-then-word-end c =
    let said = rw c.in_ok-place.was at c.attribute_of.ensures in
    let both =
    last-read _ _ _ c.is_none.ensures c.if-is_none.false _ _ _ c.loop-n.invariant _ _ c.next-end.ensures.value c.number_in.ensures
    _ c.in_ok-number.was (omega (arith, c.loop-n.invariant.len)) said.0
    (omega (arith, c.next-end.ensures.upper_bound)) in
    rw said.1 (record { value = both.0; within = omega arith; out_after = both.1 })

pub loop-n-preserved : goal.loop-n-preserved
loop-n-preserved c =
    let said = rw c.in_ok-place.was at c.attribute_of.ensures in
    rw said.1 (
    one_read _ _ _ c.is_none.ensures c.if-is_none.false _ _ _ c.loop-n.invariant _ _ c.next-end.ensures.value c.number_in.ensures
    _ c.in_ok-number.was (omega (arith, c.loop-n.invariant.len)) said.0
    c.next-end.ensures.lower_bound c.if-word-end.false
    )

pub returns : goal.returns
returns c =
    let both =
    list_full _ _ _ c.is_none.ensures c.if-is_none.false _ _ _ c.loop-n.invariant _ refl (omega (arith, c.loop-n.invariant.len)) in
    record { value = both.0; within = tt; out_after = both.1 }
