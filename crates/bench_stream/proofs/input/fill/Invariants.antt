-- What was not yet run comes to the front and stays there; what is read behind it is counted, and stays within the buffer.
use Prim.Native.Nat.{◌≤◌, ◌+◌}
use mathlib.Core.Path.{◌≡◌}
use lib.ListN.{length, take}
use Rattle.bench_stream.specs.Buffer.{Takes}
use Rattle.bench_stream.proofs.input.fill.Given as goal

abbrev pub invariant-loop-input : goal.invariant-loop-input
invariant-loop-input g l =
    (l.initial.to ≤ l.to)
    × (l.to + l.left ≤ l.initial.to + l.initial.left)
    × (l.to ≤ length l.buf)
    × (length l.buf ≡ length l.initial.buf)
    × (take l.initial.to l.buf ≡ take l.initial.to l.initial.buf)
    × Takes (g.R.Read.remaining l.initial.input) (g.R.Read.remaining l.input) l.left l.initial.left

abbrev pub decreases-loop-input : goal.decreases-loop-input
decreases-loop-input g l = l.left
