-- Some link up: what a change of one slot makes of it, and of the second since which none is.
use Prim.Native.Nat.{ℕ, zero, suc, ◌<◌}
use mathlib.Core.Bool.{Bool, true, false, cond, not, ◌&&◌, ◌||◌}
use mathlib.Core.Path.{◌≡◌, refl}
use mathlib.Core.List.{List, [], ◌∷◌}
use native.Mathlib.Decide.{dec_lt}
use native.Mathlib.Nat.{le_of_suc-le-suc, not-suc-le-zero}
use native.Mathlib.Omega.{arith}
use lib.ListN.{length, get_or, set}
use lib.Seq.{set_out}
use Rattle.device_store.specs.Zones.{id_of, free_zone, any, is_joined, is_up, any_up}
use Rattle.device_holds.specs.Links.{since_after}
use Rattle.device_store.specs.declared.Zone.{Zone}

module _ {A : Type 0} (p : A → Bool) where
  -- what passes, stored, is found
  any-stored : (l : List A) (i : ℕ) (x : A) → i < length l → p x ≡ true → any p (set l i x) ≡ true
  unfolding any
  any-stored [] i x h e = absurd (not-suc-le-zero h)
  any-stored (y ∷ l) zero x h e = rw e
  any-stored (y ∷ l) (suc i) x h e = rw (any-stored l i x (le_of_suc-le-suc h) e) (go (p y))
    where
      go : (b : Bool) → (b || true) ≡ true
      go true = refl
      go false = refl

  -- two that pass alike are alike
  any-alike : (l : List A) (i : ℕ) (x y : A) → p x ≡ p y → any p (set l i x) ≡ any p (set l i y)
  unfolding any
  any-alike [] i x y e = refl
  any-alike (z ∷ l) zero x y e = rw e
  any-alike (z ∷ l) (suc i) x y e = rw (any-alike l i x y e)

  -- element i passes, or another does
  any-split : (l : List A) (i : ℕ) (d : A) → p d ≡ false → any p l ≡ (p (get_or l i d) || any p (set l i d))
  unfolding any
  any-split [] i d e = rw e
  any-split (x ∷ l) zero d e = rw e
  any-split (x ∷ l) (suc i) d e = rw (any-split l i d e) (go (p x) (p (get_or l i d)) (any p (set l i d)))
    where
      go : (a b c : Bool) → (a || (b || c)) ≡ (b || (a || c))
      go true true c = refl
      go true false c = refl
      go false true c = refl
      go false false c = refl

module _ (zs : List Zone) (i t s : ℕ) where
  -- a change that leaves its zone up leaves the second
  pub since-up : (x : Zone) → is_up x ≡ true → since_after zs (set zs i x) t s ≡ s
  unfolding since_after any_up
  since-up x e =
      elim (dec_lt i (length zs)) [
        | yes h ↦ rw (any-stored is_up zs i x h e) (go (any is_up zs))
        | no h ↦ rw (set_out zs i x (omega arith)) (same (any is_up zs))
      ]
    where
      go : (b : Bool) → cond (b && false) t s ≡ s
      go true = refl
      go false = refl

      same : (b : Bool) → cond (b && not b) t s ≡ s
      same true = refl
      same false = refl

  -- a zone that is down counts as a free slot
  pub since-down : (x : Zone) → is_up x ≡ false → since_after zs (set zs i x) t s ≡ since_after zs (set zs i free_zone) t s
  unfolding since_after any_up is_up is_joined id_of
  since-down x e = rw (any-alike is_up zs i x free_zone e)

  -- the last up zone goes: that second
  pub since-free : since_after zs (set zs i free_zone) t s ≡ cond (is_up (get_or zs i free_zone)) (cond (any_up (set zs i free_zone)) s t) s
  unfolding since_after any_up is_up is_joined id_of
  since-free = rw (any-split is_up zs i free_zone refl) (go (is_up (get_or zs i free_zone)) (any is_up (set zs i free_zone)))
    where
      go : (a b : Bool) → cond ((a || b) && not b) t s ≡ cond a (cond b s t) s
      go true true = refl
      go true false = refl
      go false true = refl
      go false false = refl
