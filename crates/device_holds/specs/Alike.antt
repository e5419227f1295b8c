-- Whether the values of two seconds are the same, as a test that computes.
use Rattle.std.specs.Prelude.{Bool, true, false, ◌&&◌, List, [], ◌∷◌, eqb, ℤ, pos, negsuc}

unfoldable pub same_number : ℤ → ℤ → Bool
same_number (pos a) (pos b) = eqb a b
same_number (pos a) (negsuc b) = false
same_number (negsuc a) (pos b) = false
same_number (negsuc a) (negsuc b) = eqb a b

unfoldable pub alike : List ℤ → List ℤ → Bool
alike [] [] = true
alike [] (b ∷ k) = false
alike (a ∷ l) [] = false
alike (a ∷ l) (b ∷ k) = same_number a b && alike l k
