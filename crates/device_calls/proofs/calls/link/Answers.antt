-- The tests 5, 9 and 7 in the list's order; the record is `told`'s, and `since_told` gives the second that goes with it.
use mathlib.Core.Path.{sym}
use native.Mathlib.Omega.{arith}
use Rattle.device_calls.specs.Refusals.{first_of}
use Rattle.device_store.proofs.Slots.{found, not_found, found-slot}
use Rattle.device_store.proofs.Answered.{refused, accepted}
use Rattle.device_calls.proofs.Refused.{handed_on}
use Rattle.device_store.specs.Zones.{zone_of}
use Rattle.device_store.specs.Words.{zones_of}
use Rattle.device_calls.specs.Calls.{link_number, link_after}
use Rattle.device_calls.proofs.Changes.{link_change, joined-there, as_told}
use Rattle.device_calls.proofs.calls.link.Goals as goal

pub returns-in_err-in_order : goal.returns-in_err-in_order
unfolding link_number link_after first_of zone_of
returns-in_err-in_order c =
    let both =
    handed_on _ _ _ _ _ _ c.from_residual.ensures.1 c.in_err-in_order.ensures.1 (rw c.in_err-in_order.ensures.0) (λ e. omega arith) in
    record { value = both.0; d_after = both.1 }

pub returns-then-slot-ge-SLOTS : goal.returns-then-slot-ge-SLOTS
unfolding link_number link_after first_of zone_of
returns-then-slot-ge-SLOTS c =
    let both =
    refused _ 9 _ _ (rw (c.in_ok-in_order.ensures, not_found _ _ _ c.slot_of_joined-slot.ensures c.if-slot-ge-SLOTS.true)) (λ e. omega arith) in
    record { value = both.0; d_after = both.1 }

pub returns-then-up_at-up : goal.returns-then-up_at-up
unfolding link_number link_after first_of zone_of
returns-then-up_at-up c =
    let both =
    refused _ 7 _ _ (rw (
      c.in_ok-in_order.ensures,
      found _ _ _ c.slot_of_joined-slot.ensures c.if-slot-ge-SLOTS.false,
      ← found-slot _ _ _ c.slot_of_joined-slot.ensures c.if-slot-ge-SLOTS.false,
      ← c.up_at.ensures,
      ← as_told c.up_at.result c.args.up,
      c.if-up_at-up.true,
    )) (λ e. omega arith) in
    record { value = both.0; d_after = both.1 }

pub returns : goal.returns
unfolding link_number link_after first_of zone_of
returns c =
    let both =
    accepted _ _ _ _ _ (rw (
      c.in_ok-in_order.ensures,
      found _ _ _ c.slot_of_joined-slot.ensures c.if-slot-ge-SLOTS.false,
      ← found-slot _ _ _ c.slot_of_joined-slot.ensures c.if-slot-ge-SLOTS.false,
      ← c.up_at.ensures,
      ← as_told c.up_at.result c.args.up,
      c.if-up_at-up.false,
    ))
    c.apply.ensures (rw (
      c.told.ensures,
      c.since_told.ensures,
      c.overridden.ensures,
      found-slot (zones_of c.args.d.now) c.args.zone _ c.slot_of_joined-slot.ensures c.if-slot-ge-SLOTS.false,
    )
    (sym (link_change _ _ _ _ (joined-there _ _ (found _ _ _ c.slot_of_joined-slot.ensures c.if-slot-ge-SLOTS.false)) _))) in
    record { value = both.0; d_after = both.1 }
