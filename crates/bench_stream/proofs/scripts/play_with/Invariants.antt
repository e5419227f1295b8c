-- Each piece in which something was run leaves fewer bytes to read and run; where none was, the input is at its end.
use Prim.Native.Nat.{◌≤◌, ◌+◌, ◌-◌}
use mathlib.Core.Path.{◌≡◌}
use lib.ListN.{length}
use Rattle.bench_stream.specs.Buffer.{Takes}
use Rattle.bench_stream.proofs.scripts.play_with.Given as goal

abbrev pub invariant-loop-x : goal.invariant-loop-x
invariant-loop-x g l =
    (l.x.from ≤ l.x.to)
    × (l.x.to ≤ length l.buf)
    × (length l.buf ≡ length l.initial.buf)
    × (length l.page ≡ length l.initial.page)
    × ((l.x.to - l.x.from) + l.x.left ≤ l.limit)
    × Takes (g.R.Read.remaining l.initial.input) (g.R.Read.remaining l.input) l.x.left l.limit

abbrev pub decreases-loop-x : goal.decreases-loop-x
decreases-loop-x g l = (l.x.to - l.x.from) + l.x.left
