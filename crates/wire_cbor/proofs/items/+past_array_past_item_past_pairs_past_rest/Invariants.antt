-- What falls is the number of bytes left: three times that for the item, one more for the array and the pairs, which call it where
-- they stand, and two more for the rest, which calls those. Assumes nothing.
use Rattle.std.proofs.Common.{◌≡◌, ◌+◌, ◌-◌, ◌*◌, ◌≤◌, length}
use Rattle.wire_cbor.specs.Item.{item_at, items_at, pairs_at, end_of}
use Rattle.wire_heads.specs.Key.{least}
use Rattle.wire_cbor.proofs.items.+past_array_past_item_past_pairs_past_rest.Given as goal

abbrev pub decreases-past_array : goal.decreases-past_array
decreases-past_array l = 3 * (length l.s.now - l.at) + 1

abbrev pub decreases-past_item : goal.decreases-past_item
decreases-past_item l = 3 * (length l.s.now - l.at)

abbrev pub decreases-past_pairs : goal.decreases-past_pairs
decreases-past_pairs l = 3 * (length l.s.now - l.at) + 1

abbrev pub decreases-past_rest : goal.decreases-past_rest
decreases-past_rest l = 3 * (length l.s.now - l.head.next) + 2

abbrev pub invariant-past_array-loop-i : goal.invariant-past_array-loop-i
invariant-past_array-loop-i l =
    (end_of (items_at (item_at l.s l.depth) (l.n - l._i) l.p) ≡ end_of (items_at (item_at l.s l.depth) l.n l.at)) × (l.at ≤ l.p)

abbrev pub invariant-past_pairs-loop-i : goal.invariant-past_pairs-loop-i
invariant-past_pairs-loop-i l =
    (end_of (pairs_at l.s (item_at l.s l.depth) (l.n - l._i) (least l.start l.before) l.p)
    ≡ end_of (pairs_at l.s (item_at l.s l.depth) l.n (least l.first l.last) l.at))
    × (l.at ≤ l.p)
