-- How many slots there are, whatever the words hold.
use Prim.Native.Nat.{ℕ, zero, suc}
use mathlib.Core.Path.{◌≡◌, refl, ◌∙◌}
use mathlib.Core.List.{List, [], ◌∷◌}
use native.Mathlib.Omega.{arith}
use lib.ListN.{length, set, length-set, length-append}
use Rattle.device_store.specs.Sizes.{slots}
use Rattle.device_store.specs.Zones.{up_to}
use Rattle.device_store.specs.Words.{zone_at, zones_of}
use Rattle.device_store.specs.declared.Zone.{Zone}

pub length-up_to : {A : Type 0} (f : ℕ → A) (n : ℕ) → length (up_to f n) ≡ n
unfolding up_to
length-up_to f zero = refl
length-up_to f (suc n) = length-append (up_to f n) (f n ∷ []) ∙ rw (length-up_to f n) (omega arith)

pub zones_length : (ws : List ℕ) → length (zones_of ws) ≡ slots
unfolding zones_of
zones_length ws = length-up_to (zone_at ws) slots

pub placed_length : (ws : List ℕ) (i : ℕ) (x : Zone) → length (set (zones_of ws) i x) ≡ slots
placed_length ws i x = length-set (zones_of ws) i x ∙ zones_length ws
