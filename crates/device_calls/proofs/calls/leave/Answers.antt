-- The tests 5 and 9 in the list's order; the slot's new record is the free one, and `since_without` gives its second.
use native.Mathlib.Omega.{arith}
use Rattle.device_calls.specs.Refusals.{first_of}
use Rattle.device_store.proofs.Answered.{accepted}
use Rattle.device_calls.proofs.Refused.{handed_on}
use Rattle.device_calls.specs.Calls.{leave_number, leave_after, zone_change}
use Rattle.device_calls.proofs.calls.leave.Goals as goal

pub returns-in_err-in_order : goal.returns-in_err-in_order
unfolding leave_number leave_after first_of zone_change
returns-in_err-in_order c =
    let both =
    handed_on _ _ _ _ _ _ c.from_residual.ensures.1 c.in_err-in_order.ensures.1 (rw c.in_err-in_order.ensures.0) (λ e. omega arith) in
    record { value = both.0; d_after = both.1 }

pub returns-in_err-slot : goal.returns-in_err-slot
unfolding leave_number leave_after first_of zone_change
returns-in_err-slot c =
    let both =
    handed_on _ _ _ _ _ _ c.from_residual-in_err-slot.ensures.1 c.in_err-slot.ensures.1
    (rw (c.in_ok-in_order.ensures, c.in_err-slot.ensures.0)) (λ e. omega arith) in
    record { value = both.0; d_after = both.1 }

pub returns : goal.returns
unfolding leave_number leave_after first_of zone_change
returns c =
    let both =
    accepted _ _ _ _ _ (rw (c.in_ok-in_order.ensures, c.in_ok-slot.ensures.0)) c.apply.ensures
    (rw (c.free_zone.ensures, c.since_without.ensures, c.overridden.ensures, c.in_ok-slot.ensures.1)) in
    record { value = both.0; d_after = both.1 }
