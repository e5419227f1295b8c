-- Which links are up: the row of the table that holds, and since when none is.
use Rattle.std.specs.Prelude.{ℕ, cond, not, ◌&&◌, List}
use Rattle.device_store.specs.Zones.{any_joined, any_up}
use Rattle.device_store.specs.declared.Zone.{Zone}

-- the row of the table of links: 2 some zone up, 1 zones joined and none up, 0 none joined
unfoldable pub link_row : List Zone → ℕ
link_row zs = cond (any_up zs) 2 (cond (any_joined zs) 1 0)

-- the second since which no link is up, as a call at t moves it: "If the last up zone leaves and down ones remain, s is that second"
unfoldable pub since_after : List Zone → List Zone → ℕ → ℕ → ℕ
since_after old new t s = cond (any_up old && not (any_up new)) t s
