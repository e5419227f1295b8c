-- From the last byte to the first, what is left to put makes the whole.
use Rattle.std.proofs.Common.{◌≡◌}
use Rattle.wire_bytes.specs.Bytes.{bytes_of, put}
use Rattle.wire_bytes.proofs.puts.put_number.Given as goal

abbrev pub invariant-loop-i : goal.invariant-loop-i
invariant-loop-i g l = put l.out l.at (bytes_of l.i l.rest) ≡ put l.initial.out l.at (bytes_of g.row.W l.v)
