-- What the prefix says. Assumes nothing.
use Prim.Native.Nat.{ℕ, ◌-◌, ◌≤◌}
use mathlib.Core.Path.{◌≡◌, refl, sym, ◌∙◌}
use mathlib.Core.Bool.{Bool, true, false, ◌&&◌}
use mathlib.Core.List.{List}
use native.Mathlib.Omega.{arith}
use lib.ListN.{length, take, drop, length-drop}
use lib.Seq.{take_all}
use borrow.Author.Tests.{leb-true}
use Rattle.wire_prefix.specs.Prefix.{framed, payload_in}

and_left : (a b : Bool) → (a && b) ≡ true → a ≡ true
and_left true b e = refl
and_left false b e = e

pub long_enough : (frame : List ℕ) (b : Bool) → b ≡ framed frame → b ≡ true → 5 ≤ length frame
unfolding framed
long_enough frame b e y = leb-true 5 (length frame) (and_left _ _ (and_left _ _ (sym e ∙ y)))

-- the part of a frame behind its prefix
pub rest_all : (frame : List ℕ) → take (length frame - 4) (drop 4 frame) ≡ payload_in frame
rest_all frame = take_all (length frame - 4) (drop 4 frame) (omega (arith, length-drop 4 frame))
