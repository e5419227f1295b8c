-- The tests 5, 6, 7, 8 in the list's order; what 6 lets pass fits the precedence, and a zone that joins up leaves `since` alone.
use Prim.Native.Nat.{◌<◌, ◌≤◌}
use mathlib.Core.Path.{sym}
use borrow.Author.Tests.{le-leb, lt-leb}
use native.Mathlib.Omega.{arith}
use Rattle.device_calls.specs.Refusals.{first_of}
use Rattle.device_store.proofs.Answered.{refused, accepted}
use Rattle.device_calls.proofs.Refused.{handed_on}
use Rattle.device_rules.specs.Rules.{ranks}
use Rattle.device_calls.specs.Calls.{join_number, join_after}
use Rattle.device_store.proofs.Tests.{via}
use Rattle.device_calls.proofs.Changes.{up_change, join-range, join_up}
use Rattle.device_calls.proofs.calls.join.Goals as goal

pub returns-in_err-in_order : goal.returns-in_err-in_order
unfolding join_number join_after first_of
returns-in_err-in_order c =
    let both =
    handed_on _ _ _ _ _ _ c.from_residual.ensures.1 c.in_err-in_order.ensures.1 (rw c.in_err-in_order.ensures.0) (λ e. omega arith) in
    record { value = both.0; d_after = both.1 }

pub returns-then-is_bad_join : goal.returns-then-is_bad_join
unfolding join_number join_after first_of
returns-then-is_bad_join c =
    let both =
    refused _ 6 _ _ (rw (
      c.in_ok-in_order.ensures,
      via c.is_bad_join.ensures
          c.if-is_bad_join.true,
    )) (λ e. omega arith) in
    record { value = both.0; d_after = both.1 }

pub returns-then-is_joined : goal.returns-then-is_joined
unfolding join_number join_after first_of
returns-then-is_joined c =
    let both =
    refused _ 7 _ _ (rw (
      c.in_ok-in_order.ensures,
      via c.is_bad_join.ensures c.if-is_bad_join.false,
      via
          c.is_joined.ensures c.if-is_joined.true,
    )) (λ e. omega arith) in
    record { value = both.0; d_after = both.1 }

pub returns-then-slot-ge-SLOTS : goal.returns-then-slot-ge-SLOTS
unfolding join_number join_after first_of
returns-then-slot-ge-SLOTS c =
    let both =
    refused _ 8 _ _ (rw (
      c.in_ok-in_order.ensures,
      via c.is_bad_join.ensures c.if-is_bad_join.false,
      via
          c.is_joined.ensures c.if-is_joined.false,
      le-leb _ _ (rw c.slot_of-slot.ensures at c.if-slot-ge-SLOTS.true),
    )) (λ e. omega arith) in
    record { value = both.0; d_after = both.1 }

pub new_zone-requires : goal.new_zone-requires
unfolding join_number join_after first_of
new_zone-requires c =
    let r : (0 < _) × (_ < 256) × (_ ≤ ranks) = join-range _ _ (via c.is_bad_join.ensures c.if-is_bad_join.false) in (r.1, r.2)

pub returns : goal.returns
unfolding join_number join_after first_of
returns c =
    let both =
    accepted _ _ _ _ _ (rw (
      c.in_ok-in_order.ensures,
      via c.is_bad_join.ensures c.if-is_bad_join.false,
      via c.is_joined.ensures c.if-is_joined.false,
      lt-leb _ _ (rw c.slot_of-slot.ensures at c.if-slot-ge-SLOTS.false),
    )) c.apply.ensures
    (rw (c.new_zone.ensures, c.since.ensures, c.overridden.ensures, c.slot_of-slot.ensures)
    (sym (up_change _ _ _ _ (join_up _ _ (via c.is_bad_join.ensures c.if-is_bad_join.false))))) in
    record { value = both.0; d_after = both.1 }
