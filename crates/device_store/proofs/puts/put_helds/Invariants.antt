-- To store the values from q on now is to store them all in the words of the start.
use Rattle.device_store.specs.Sizes.{helds}
use Rattle.device_store.specs.Words.{held_words}
use lib.Seq.{sets}
use lib.ListN.{drop}
use mathlib.Core.Path.{◌≡◌}
use Prim.Native.Nat.{◌≤◌, ◌+◌, ◌*◌}
use Rattle.device_store.proofs.puts.put_helds.Given as goal

abbrev pub invariant-loop-q : goal.invariant-loop-q
invariant-loop-q l =
    (l.q ≤ helds) × (sets l.d (l.p + 2 * l.q) (held_words (drop l.q l.h-items)) ≡ sets l.initial.d l.p (held_words l.h-items))
