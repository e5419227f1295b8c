-- From the last digit to the first, what is left to put makes the whole.
use Rattle.std.proofs.Common.{◌≡◌}
use Rattle.wire_bytes.specs.Bytes.{put}
use Rattle.text.specs.Text.{digits}
use Rattle.text.proofs.numbers.put_digits.Given as goal

abbrev pub invariant-loop-i : goal.invariant-loop-i
invariant-loop-i l = put l.out l.at (digits l.i l.rest) ≡ put l.initial.out l.at (digits l.width l.n)
