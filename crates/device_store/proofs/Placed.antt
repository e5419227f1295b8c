-- Another record in a slot's place.
use Prim.Native.Nat.{ℕ, ◌<◌, ◌≤◌}
use mathlib.Core.Bool.{Bool, true, false, ◌&&◌}
use native.Mathlib.Omega.{arith}
use borrow.Author.Tests.{ltb-true, ltb-false, eqb-true, eqb-false}
use lib.Dec.{ltb, eqb}
use mathlib.Core.Path.{◌≡◌, refl, sym, ◌∙◌}
use mathlib.Core.List.{List}
use lib.ListN.{get_or, set, get_or-eq_default}
use lib.Seq.{get_or-set_same, get_or-set_other}
use Rattle.device_store.specs.Sizes.{slots}
use Rattle.device_store.specs.Zones.{free_zone}
use Rattle.device_store.specs.Words.{zones_of}
use Rattle.device_store.specs.declared.Zone.{Zone}
pub use Rattle.device_store.specs.Counts.{placed_length}
use Rattle.device_store.proofs.Lens.{zones_length, zones_past}

module _ (ws : List ℕ) (i : ℕ) (x : Zone) where
  pub placed_here : (k : ℕ) → k < slots → k ≡ i → get_or (set (zones_of ws) i x) k free_zone ≡ x
  placed_here k h e = rw e (get_or-set_same (zones_of ws) i x free_zone (rw (zones_length ws, ← e) h))

  pub placed_other : (k : ℕ) → (k ≡ i → ⊥) → get_or (set (zones_of ws) i x) k free_zone ≡ get_or (zones_of ws) k free_zone
  placed_other k n = get_or-set_other (zones_of ws) i k x free_zone n

  -- whether slot k is the one whose record is given, by the test of the code
  pub placed_is : (k : ℕ) → (ltb k slots && eqb k i) ≡ true → get_or (set (zones_of ws) i x) k free_zone ≡ x
  placed_is k e = go (ltb k slots) (eqb k i) refl refl e
    where
      go : (a b : Bool) → ltb k slots ≡ a → eqb k i ≡ b → (a && b) ≡ true → get_or (set (zones_of ws) i x) k free_zone ≡ x
      go true true p q e = placed_here k (ltb-true k slots p) (eqb-true k i q)
      go true false p q e = absurd (let z : ◌≡◌ {A = ℕ} 0 1 = cc in omega arith)
      go false b p q e = absurd (let z : ◌≡◌ {A = ℕ} 0 1 = cc in omega arith)

  pub placed_not : (k : ℕ) → (ltb k slots && eqb k i) ≡ false → get_or (set (zones_of ws) i x) k free_zone ≡ get_or (zones_of ws) k free_zone
  placed_not k e = go (ltb k slots) (eqb k i) refl refl e
    where
      go : (a b : Bool) → ltb k slots ≡ a → eqb k i ≡ b → (a && b) ≡ false → get_or (set (zones_of ws) i x) k free_zone ≡ get_or (zones_of ws) k free_zone
      go true true p q e = absurd (let z : ◌≡◌ {A = ℕ} 0 1 = cc in omega arith)
      go true false p q e = placed_other k (eqb-false k i q)
      go false b p q e =
          let h : slots ≤ k = ltb-false k slots p in
          get_or-eq_default (set (zones_of ws) i x) free_zone {n = k} (rw placed_length h) ∙ sym (zones_past ws k h)
