-- To store the words from i on now is to store all of them in the words of the start.
use Prim.Native.Nat.{◌+◌, ◌≤◌}
use mathlib.Core.Path.{◌≡◌}
use lib.ListN.{drop}
use lib.Seq.{sets}
use Rattle.device_store.specs.Sizes.{marks, settings}
use Rattle.device_store.proofs.puts.put_settings.Given as goal

abbrev pub invariant-loop-i : goal.invariant-loop-i
invariant-loop-i l = (l.i ≤ settings) × (sets l.d (marks + l.i) (drop l.i l.v-items) ≡ sets l.initial.d marks l.v-items)
