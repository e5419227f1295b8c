-- What is left to walk finds what the whole walk finds.
use Prim.Native.Nat.{◌-◌}
use mathlib.Core.Path.{◌≡◌}
use Rattle.wire_cbor.specs.Find.{seek_at}
use Rattle.wire_cbor.proofs.pairs.seek.Given as goal

abbrev pub invariant-loop-passed : goal.invariant-loop-passed
invariant-loop-passed l = seek_at l.s l.depth l.key (l.left - l.passed) l.p ≡ seek_at l.s l.depth l.key l.left l.at
