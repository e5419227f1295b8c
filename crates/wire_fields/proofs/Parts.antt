-- A message by its parts: what is seen in each place, and one reader after the other. Assumes nothing.
use Prim.Native.Nat.{ℕ, ◌<◌}
use mathlib.Core.Path.{◌≡◌, refl, ap, ◌∙◌}
use mathlib.Core.Bool.{Bool, true, false, ◌&&◌}
use mathlib.Core.List.{List}
use mathlib.Core.Option.{Option, some, bind}
use native.Mathlib.Omega.{arith}
use Rattle.wire_cbor.specs.Item.{Pairs}
use Rattle.wire_cbor.specs.Find.{value_of}
use Rattle.wire_cbor.specs.Scan.{KEYS, LEVELS, key_head_of, map_at, key_head_at}
use Rattle.wire_cbor.proofs.Passes.{key_head_exact}
use Rattle.wire_fields.specs.KeyHeads.{found, Shown}

-- PLACES
module _ (ws : List ℕ) (path : ℕ) (ps : Pairs) (h : Shown ws path ps) where
  -- what is seen under a small key of the map at a level
  pub shown : (level key : ℕ) → level < LEVELS → key < KEYS → key_head_at ws level key ≡ key_head_of (value_of (map_at level path ps) key)
  unfolding Shown
  shown level key l k = ap (λ (x : List ℕ). key_head_at x level key) h ∙ key_head_exact path ps level key l k

  -- and of the payload's own
  pub top : (key : ℕ) → key < KEYS → key_head_at ws 0 key ≡ key_head_of (value_of ps key)
  unfolding map_at
  top key k = shown 0 key (omega arith) k

-- CHAINS
module _ {X Y : Type 0} {o : Option X} (x : X) where
  -- one reader, then the rest
  pub then : (y : Y) (g : X → Option Y) (a b : Bool) → o ≡ found a x → g x ≡ found b y → bind o g ≡ found (a && b) y
  unfolding bind
  then y g true b e f = rw e f
  then y g false b e f = rw e refl

  -- the last
  pub last : (F : X → Y) (a : Bool) → o ≡ found a x → bind o (λ z. some (F z)) ≡ found a (F x)
  unfolding bind
  last F true e = rw e refl
  last F false e = rw e refl
