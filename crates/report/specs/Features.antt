-- The reading of a bit of the feature map (document 003 section 1).
use Rattle.std.specs.Prelude.{ℕ, ◌/◌, ◌%◌, ◌^◌, Bool, eqb}

-- bit b of a map is set
unfoldable pub bit : ℕ → ℕ → Bool
bit map b = eqb (map / 2 ^ b % 2) 1
