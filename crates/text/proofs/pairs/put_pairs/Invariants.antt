-- What was put and what is left from each byte on make the whole.
use Rattle.std.proofs.Common.{◌≡◌, ◌+◌, ◌*◌, drop}
use Rattle.wire_bytes.specs.Bytes.{put}
use Rattle.text.specs.Text.{hex}
use Rattle.text.proofs.pairs.put_pairs.Given as goal

abbrev pub invariant-loop-i : goal.invariant-loop-i
invariant-loop-i l = put l.out (l.at + 2 * l.i) (hex (drop l.i l.bytes)) ≡ put l.initial.out l.at (hex l.bytes)
