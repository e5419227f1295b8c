-- Joined tests taken apart. Assumes nothing.
use Prim.Native.Nat.{ℕ}
use mathlib.Core.Path.{◌≡◌, refl, sym, ap, ◌∙◌}
use mathlib.Core.Bool.{Bool, true, false, not, ◌&&◌, ◌||◌}
use mathlib.Core.Option.{Option, some, none}
use native.Mathlib.Omega.{arith}
use Rattle.wire_cbor.specs.Item.{is_some}

-- a test's result is what its contract says
pub via : {X : Type 0} {r p v : X} → r ≡ p → r ≡ v → p ≡ v
via e f = sym e ∙ f

pub no_both : true ≡ false → ⊥
no_both e = let z : ◌≡◌ {A = ℕ} 0 1 = cc in omega arith

pub and_left : (a b : Bool) → (a && b) ≡ true → a ≡ true
and_left true b e = refl
and_left false b e = absurd (no_both (sym e))

pub and_right : (a b : Bool) → (a && b) ≡ true → b ≡ true
and_right true b e = e
and_right false b e = absurd (no_both (sym e))

pub or_left : (a b : Bool) → (a || b) ≡ false → a ≡ false
or_left true b e = e
or_left false b e = refl

pub or_right : (a b : Bool) → (a || b) ≡ false → b ≡ false
or_right true b e = absurd (no_both e)
or_right false b e = e

pub not-is_false : (a : Bool) → not a ≡ false → a ≡ true
not-is_false true e = refl
not-is_false false e = absurd (no_both e)

pub and_same : {a b c d : Bool} → a ≡ c → b ≡ d → (a && b) ≡ (c && d)
and_same {a} {b} {c} {d} e f = ap (λ (x : Bool). x && b) e ∙ ap (λ (x : Bool). c && x) f

-- an option that is there, and one that is not
pub is-some : {X : Type 0} (o : Option X) → is_some o ≡ true → (x : X) × (o ≡ some x)
is-some (some x) e = (x, refl)
is-some none e = absurd (let z : ◌≡◌ {A = ℕ} 0 1 = cc in omega arith)

pub is_none : {X : Type 0} (o : Option X) → is_some o ≡ false → o ≡ none
is_none (some x) e = absurd (let z : ◌≡◌ {A = ℕ} 0 1 = cc in omega arith)
is_none none e = refl
