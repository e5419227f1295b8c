-- What was stored and what is left from each pair on make the whole.
use mathlib.Core.Path.{◌≡◌}
use Prim.Native.Nat.{◌*◌}
use lib.ListN.{length, drop}
use Rattle.console_words.specs.Hex.{hex_bytes}
use Rattle.wire_bytes.specs.Bytes.{put}
use Rattle.console_words.proofs.hex.store.Given as goal

abbrev pub invariant-loop-n : goal.invariant-loop-n
invariant-loop-n l =
    (length l.out ≡ length l.initial.out) × (put l.out l.n (hex_bytes (drop (2 * l.n) l.word)) ≡ put l.initial.out 0 (hex_bytes l.word))
