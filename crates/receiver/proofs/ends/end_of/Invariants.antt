-- The bytes before i are read: the payload's length so far is their number.
use Prim.Native.Nat.{ℕ}
use mathlib.Core.Path.{◌≡◌}
use mathlib.Core.List.{◌++◌}
use lib.ListN.{take}
use Rattle.wire_bytes.specs.Bytes.{number_at}
use Rattle.receiver.proofs.ends.end_of.Given as goal

abbrev pub invariant-loop-i : goal.invariant-loop-i
invariant-loop-i l = l.payload ≡ number_at (take l.have l.room ++ l.scrap) 0 l.i
