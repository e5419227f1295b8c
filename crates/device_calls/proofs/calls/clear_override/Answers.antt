-- 5 and then 7, as in the list of tests; accepted, the override's word is 0 and the clock moves.
use mathlib.Core.Path.{refl, sym, ◌∙◌}
use borrow.Author.Tests.{eq-eqb, ne_eqb}
use native.Mathlib.Omega.{arith}
use Rattle.device_calls.specs.Refusals.{first_of}
use Rattle.device_store.proofs.Answered.{refused, accepted}
use Rattle.device_calls.proofs.Refused.{handed_on}
use Rattle.device_calls.specs.Calls.{clear_number, clear_after}
use Rattle.device_calls.proofs.calls.clear_override.Goals as goal

pub returns-in_err-in_order : goal.returns-in_err-in_order
unfolding clear_number clear_after first_of
returns-in_err-in_order c =
    let both =
    handed_on _ _ _ _ _ _ c.from_residual.ensures.1 c.in_err-in_order.ensures.1 (rw c.in_err-in_order.ensures.0) (λ e. omega arith) in
    record { value = both.0; d_after = both.1 }

pub returns-then-overridden-eq0 : goal.returns-then-overridden-eq0
unfolding clear_number clear_after first_of
returns-then-overridden-eq0 c =
    let both =
    refused _ 7 _ _ (rw (c.in_ok-in_order.ensures, eq-eqb _ _ (sym c.overridden.ensures ∙ c.if-overridden-eq0.true))) (λ e. omega arith) in
    record { value = both.0; d_after = both.1 }

pub returns : goal.returns
unfolding clear_number clear_after first_of
returns c =
    let both =
    accepted _ _ _ _ _ (rw (c.in_ok-in_order.ensures, ne_eqb _ _ (λ e. c.if-overridden-eq0.false (c.overridden.ensures ∙ e))))
    c.apply_head.ensures refl in
    record { value = both.0; d_after = both.1 }
