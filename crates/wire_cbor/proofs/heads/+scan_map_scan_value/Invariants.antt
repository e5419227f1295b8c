-- The invariant ties what is left of the map to the whole, and the words kept so far to those at the end. What falls is the number of
-- bytes left: twice that for a value, one more for a map, which calls it where it stands. Assumes nothing.
use Rattle.std.proofs.Common.{◌+◌, ◌-◌, ◌*◌, ◌≤◌, length}
use Rattle.wire_cbor.specs.Item.{item_at, pairs_at}
use Rattle.wire_cbor.specs.Pass.{note_from}
use Rattle.wire_heads.specs.Key.{least}
use Rattle.wire_cbor.proofs.PassSteps.{Onward}
use Rattle.wire_cbor.proofs.heads.+scan_map_scan_value.Given as goal

abbrev pub decreases-scan_map : goal.decreases-scan_map
decreases-scan_map l = 2 * (length l.s.now - l.at) + 1

abbrev pub decreases-scan_value : goal.decreases-scan_value
decreases-scan_value l = 2 * (length l.s.now - l.at)

abbrev pub invariant-scan_map-loop-passed : goal.invariant-scan_map-loop-passed
invariant-scan_map-loop-passed l =
    Onward (note_from l.path l.level) (pairs_at l.s (item_at l.s l.depth) (l.n - l.passed) (least l.first l.last) l.p) l.heads
    (pairs_at l.s (item_at l.s l.depth) l.n 0 l.at) l.initial.heads × (l.at ≤ l.p)
