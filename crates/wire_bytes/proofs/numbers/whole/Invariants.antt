-- The bytes before i are read: n is their number.
use Rattle.std.proofs.Common.{◌≡◌}
use Rattle.wire_bytes.specs.Bytes.{number_at}
use Rattle.wire_bytes.proofs.numbers.whole.Given as goal

abbrev pub invariant-loop-i : goal.invariant-loop-i
invariant-loop-i g l = l.n ≡ number_at l.s l.at l.i
