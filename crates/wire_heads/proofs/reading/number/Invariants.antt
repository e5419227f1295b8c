-- One byte, or two and then two more at each turn: the loop holds the number of the bytes so far.
use mathlib.Core.Path.{◌≡◌}
use Prim.Native.Nat.{◌%◌, ◌-◌, ◌≤◌}
use Rattle.wire_bytes.specs.Bytes.{number_at}
use Rattle.wire_heads.proofs.reading.number.Given as goal

abbrev pub invariant-loop-i : goal.invariant-loop-i
invariant-loop-i l = (2 ≤ l.i) × (l.i ≤ l.width) × (l.i % 2 ≡ 0) × (l.width % 2 ≡ 0) × (l.n ≡ number_at l.s l.at l.i)

abbrev pub decreases-loop-i : goal.decreases-loop-i
decreases-loop-i l = l.width - l.i
