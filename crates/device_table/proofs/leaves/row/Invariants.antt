-- Each turn shows one quantity, below the bound of its direction.
use Prim.Native.Nat.{◌+◌}
use mathlib.Core.Path.{◌≡◌}
use mathlib.Core.List.{[], ◌∷◌}
use lib.ListN.{length}
use Rattle.device_store.specs.Quantities.{helds}
use Rattle.device_table.specs.Leaves.{top_of, shown_in, Filled}
use Rattle.device_table.proofs.leaves.row.Given as goal

abbrev pub invariant-loop-q : goal.invariant-loop-q
invariant-loop-q l =
    (l.tops ≡ top_of l.has 0 ∷ top_of l.has 1 ∷ []) × (length l.v ≡ 1 + helds) × Filled (shown_in l.has l.low l.lead) l.v l.q
