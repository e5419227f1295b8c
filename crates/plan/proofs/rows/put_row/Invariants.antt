-- The second, then each value behind it: what is left to write leads to the whole row.
use Prim.Native.Nat.{◌+◌}
use mathlib.Core.Path.{◌≡◌}
use lib.ListN.{drop}
use lib.Seq.{sets}
use Rattle.plan.proofs.rows.put_row.Given as goal

abbrev pub invariant-loop-i : goal.invariant-loop-i
invariant-loop-i l = sets l.out (l.at + 1 + l.i) (drop l.i l.v-items) ≡ sets l.initial.out (l.at + 1) l.v-items
