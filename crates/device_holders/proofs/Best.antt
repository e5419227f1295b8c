-- The best-placed zone that passes a test: one of the list where any passes, and none that passes has a smaller precedence.
use Prim.Native.Nat.{ℕ, zero, suc, ◌<◌, ◌≤◌}
use mathlib.Core.Bool.{Bool, true, false, cond, not, ◌&&◌, ◌||◌}
use mathlib.Core.Logic.{◌⊎◌, inl, inr, ⊎_elim}
use mathlib.Core.Path.{◌≡◌, refl, sym, ap, ◌∙◌}
use mathlib.Core.List.{List, [], ◌∷◌, foldl}
use native.Mathlib.Nat.{le_of_suc-le-suc, not-suc-le-zero}
use native.Mathlib.Omega.{arith}
use borrow.Author.Tests.{ltb-true, ltb-false}
use lib.Dec.{ltb}
use lib.ListN.{length, get_or}
use Rattle.device_store.specs.Zones.{free_zone, id_of, is_joined}
use Rattle.device_store.specs.declared.Zone.{Zone}
use Rattle.device_store.proofs.Tests.{never}
use Rattle.device_holders.specs.Holders.{better_placed, best_placed}

pub record IsBest (p : Zone → Bool) (zs : List Zone) : Type 0 where
  pub held : is_joined (best_placed p zs) ≡ true → (i : ℕ) × (i < length zs) × (p (get_or zs i free_zone) ≡ true) × (get_or zs i free_zone ≡ best_placed p zs)
  pub first : (i : ℕ) → i < length zs → p (get_or zs i free_zone) ≡ true → (best_placed p zs).precedence ≤ (get_or zs i free_zone).precedence
  pub none : is_joined (best_placed p zs) ≡ false → (i : ℕ) → i < length zs → p (get_or zs i free_zone) ≡ true → ⊥

-- r is a zone's, and no worse placed than y
abbrev Stands : Zone → Zone → Type 0
Stands r y = (is_joined r ≡ true) × (r.precedence ≤ y.precedence)

-- a test that only joined zones pass
module _ (p : Zone → Bool) (joined : (x : Zone) → p x ≡ true → is_joined x ≡ true) where
  module _ (a x : Zone) where
    placed_keeps : (y : Zone) → Stands a y → Stands (better_placed p a x) y
    unfolding better_placed
    placed_keeps y s = rw s.0 (go (p x) (ltb x.precedence a.precedence) refl refl)
      where
        go : (u v : Bool) → p x ≡ u → ltb x.precedence a.precedence ≡ v → Stands (cond (u && v) x a) y
        go true true e f = (joined x e, omega (arith, s.1, ltb-true x.precedence a.precedence f))
        go true false e f = s
        go false v e f = s

    placed_takes : p x ≡ true → Stands (better_placed p a x) x
    unfolding better_placed
    placed_takes e = rw e (go (is_joined a) (ltb x.precedence a.precedence) refl refl)
      where
        go : (u v : Bool) → is_joined a ≡ u → ltb x.precedence a.precedence ≡ v → Stands (cond (not u || v) x a) x
        go true true f g = (joined x e, omega arith)
        go true false f g = (f, ltb-false x.precedence a.precedence g)
        go false v f g = (joined x e, omega arith)

    placed_one : (better_placed p a x ≡ a) ⊎ ((better_placed p a x ≡ x) × (p x ≡ true))
    unfolding better_placed
    placed_one = go (p x) (not (is_joined a) || ltb x.precedence a.precedence) refl
      where
        go : (u v : Bool) → p x ≡ u → (cond (u && v) x a ≡ a) ⊎ ((cond (u && v) x a ≡ x) × (p x ≡ true))
        go true true e = inr (refl, e)
        go true false e = inl refl
        go false v e = inl refl

  fold_keeps : (a y : Zone) (zs : List Zone) → Stands a y → Stands (foldl (better_placed p) a zs) y
  fold_keeps a y [] s = s
  fold_keeps a y (x ∷ zs) s = fold_keeps (better_placed p a x) y zs (placed_keeps a x y s)

  fold_takes : (a : Zone) (zs : List Zone) (i : ℕ) → i < length zs → p (get_or zs i free_zone) ≡ true → Stands (foldl (better_placed p) a zs) (get_or zs i free_zone)
  fold_takes a [] i h e = absurd (not-suc-le-zero h)
  fold_takes a (x ∷ zs) zero h e = fold_keeps (better_placed p a x) x zs (placed_takes a x e)
  fold_takes a (x ∷ zs) (suc i) h e = fold_takes (better_placed p a x) zs i (le_of_suc-le-suc h) e

  abbrev At : List Zone → Zone → Type 0
  At zs r = (i : ℕ) × (i < length zs) × (p (get_or zs i free_zone) ≡ true) × (get_or zs i free_zone ≡ r)

  fold_one : (a : Zone) (zs : List Zone) → (foldl (better_placed p) a zs ≡ a) ⊎ At zs (foldl (better_placed p) a zs)
  fold_one a [] = inl refl
  fold_one a (x ∷ zs) = ⊎_elim (λ e. here (placed_one a x) e) (λ s. inr (suc s.0, omega (arith, s.1), s.2, s.3)) (fold_one (better_placed p a x) zs)
    where
      here : (better_placed p a x ≡ a) ⊎ ((better_placed p a x ≡ x) × (p x ≡ true)) → foldl (better_placed p) (better_placed p a x) zs ≡ better_placed p a x
          → (foldl (better_placed p) (better_placed p a x) zs ≡ a) ⊎ At (x ∷ zs) (foldl (better_placed p) (better_placed p a x) zs)
      here (inl e) f = inl (f ∙ e)
      here (inr e) f = inr (0, omega arith, e.1, sym (f ∙ e.0))

  free : is_joined free_zone ≡ false
  unfolding is_joined id_of
  free = refl

  pub best_placed-is : (zs : List Zone) → IsBest p zs
  unfolding best_placed
  best_placed-is zs =
      record {
        held = λ e. ⊎_elim (λ f. absurd (never (sym e ∙ ap is_joined f ∙ free))) (λ s. s) (fold_one free_zone zs);
        first = λ i h e. (fold_takes free_zone zs i h e).1;
        none = λ n i h e. never (sym (fold_takes free_zone zs i h e).0 ∙ n);
      }
