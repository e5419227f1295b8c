-- The seconds at which what holds can change, and the next of them.
use Rattle.std.specs.Prelude.{ℕ, ◌+◌, cond}
use mathlib.Core.List.{List, [], ◌∷◌, ◌++◌, foldl}
use Rattle.device_store.specs.Sizes.{end}
use Rattle.device_store.specs.Zones.{any_joined, any_up}
use Rattle.device_holds.specs.Holds.{Situation, values_at}
use Rattle.device_holds.specs.declared.View.{View}
pub use Rattle.device_claims.specs.Ends.{low_dues, lead_dues}
unfoldable pub use Rattle.device_claims.specs.Ends.{zone_dues, held_dues}
unfoldable pub use Rattle.device_store.specs.Smaller.{nearer}

-- the seconds at which what holds can change, links and override unmoved; with no link up no setpoint counts
unfoldable pub dues : Situation → List ℕ
dues s =
    cond (any_up s.zones) (low_dues s.zones ++ lead_dues s.zones)
    (cond (any_joined s.zones) ((s.since + s.settings.duration) ∷ low_dues s.zones) [])

-- the next due second past cur, or the end where there is none before it
unfoldable pub nearest : ℕ → List ℕ → ℕ
nearest cur ds = foldl (nearer cur) end ds

-- what holds at t, and until when it cannot change
abbrev pub view_at : Situation → ℕ → View
view_at s t = record { values = values_at s t; next = nearest t (dues s) }
