-- Late is refused; else the clock alone moves, and the override stays.
use native.Mathlib.Omega.{arith}
use Rattle.device_calls.specs.Refusals.{first_of}
use Rattle.device_calls.specs.Calls.{move_number, move_after}
use Rattle.device_store.proofs.Answered.{accepted}
use Rattle.device_calls.proofs.Refused.{handed_on}
use Rattle.device_calls.proofs.calls.move_clock.Goals as goal

pub returns-in_err-in_order : goal.returns-in_err-in_order
unfolding move_number move_after first_of
returns-in_err-in_order c =
    let both =
    handed_on _ _ _ _ _ _ c.from_residual.ensures.1 c.in_err-in_order.ensures.1 (rw c.in_err-in_order.ensures.0) (λ e. omega arith) in
    record { value = both.0; d_after = both.1 }

pub returns : goal.returns
unfolding move_number move_after first_of
returns c =
    let both = accepted _ _ _ _ _ (rw c.in_ok-in_order.ensures) c.apply_head.ensures (rw c.overridden.ensures) in
    record { value = both.0; d_after = both.1 }
