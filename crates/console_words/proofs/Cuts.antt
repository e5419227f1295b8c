-- Words by their bounds, and byte for byte. Assumes nothing.
use Prim.Native.Nat.{ℕ}
use mathlib.Core.Path.{◌≡◌, refl}
use mathlib.Core.Bool.{Bool, true, false, ◌&&◌, cond}
use mathlib.Core.List.{List, [], ◌∷◌}
use lib.Dec.{eqb}
use lib.Pointwise.{pointwise}
use Rattle.console_words.specs.Spans.{same_bytes}

pub pointwise_same : (s t : List ℕ) → pointwise eqb s t ≡ same_bytes s t
unfolding same_bytes
pointwise_same [] [] = refl
pointwise_same [] (b ∷ t) = refl
pointwise_same (a ∷ s) [] = refl
pointwise_same (a ∷ s) (b ∷ t) = go (eqb a b) (pointwise_same s t)
  where
    go : (q : Bool) → pointwise eqb s t ≡ same_bytes s t → (q && pointwise eqb s t) ≡ cond q (same_bytes s t) false
    go true e = e
    go false e = refl
