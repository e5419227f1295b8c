-- Chains of readers taken apart. Assumes nothing.
use Prim.Native.Nat.{ℕ}
use mathlib.Core.Path.{◌≡◌, refl}
use mathlib.Core.Option.{Option, some, none, bind, map}
use native.Mathlib.Omega.{arith}

-- none is no value
pub no_value : {X : Type 0} {x : X} → none ≡ some x → ⊥
no_value e = let z : ◌≡◌ {A = ℕ} 0 1 = cc in omega arith

pub same-inside : {X : Type 0} {x y : X} → some x ≡ some y → x ≡ y
same-inside e = cc

pub bind-parts : {X Y : Type 0} (o : Option X) (k : X → Option Y) (y : Y) → bind o k ≡ some y → (x : X) × (o ≡ some x) × (k x ≡ some y)
unfolding bind
bind-parts (some x) k y e = (x, refl, e)
bind-parts none k y e = absurd (no_value e)

pub map-part : {X Y : Type 0} (g : X → Y) (o : Option X) (y : Y) → map g o ≡ some y → (x : X) × (o ≡ some x) × (g x ≡ y)
map-part g (some x) y e = (x, refl, cc)
map-part g none y e = absurd (no_value e)
