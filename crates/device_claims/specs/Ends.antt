-- The seconds at which what the zones claim ends.
use Rattle.std.specs.Prelude.{ℕ, cond, List, [], ◌∷◌, ◌++◌}
use Rattle.device_store.specs.Quantities.{lowest_values, leading_setpoints, low_at, lead_at}
use Rattle.device_store.specs.Zones.{up_to, held_of, is_joined}
use Rattle.device_store.specs.declared.Zone.{Zone}

-- the seconds at which the quantities at 0, at 1, .. at (n - 1) of a joined zone end
unfoldable pub zone_dues : (ℕ → ℕ) → ℕ → Zone → List ℕ
zone_dues at n x = cond (is_joined x) (up_to (λ k. (held_of x (at k)).until) n) []

unfoldable pub held_dues : (ℕ → ℕ) → ℕ → List Zone → List ℕ
held_dues at n [] = []
held_dues at n (x ∷ xs) = zone_dues at n x ++ held_dues at n xs

-- the ends of all that go by the smallest, and of all that go by the precedence
abbrev pub low_dues : List Zone → List ℕ
low_dues zs = held_dues low_at lowest_values zs

abbrev pub lead_dues : List Zone → List ℕ
lead_dues zs = held_dues lead_at leading_setpoints zs
