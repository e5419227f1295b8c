-- Whether a zone holds a value; and one zone more: who is better placed.
use Prim.Native.Nat.{ℕ, ◌<◌, ◌≤◌}
use mathlib.Core.Bool.{Bool, true, false, cond, not, ◌&&◌}
use mathlib.Core.Path.{◌≡◌, refl, sym, ◌∙◌}
use borrow.Author.Tests.{lt-ltb, le-ltb, eq-eqb, ne_eqb}
use lib.Dec.{ltb, eqb}
use Rattle.device_store.specs.Zones.{id_of, is_joined, held_of}
use Rattle.device_store.specs.declared.Held.{Held}
use Rattle.device_store.specs.declared.Zone.{Zone}
use Rattle.device_holds.specs.Holds.{Situation}
use Rattle.device_holders.specs.Holders.{holds_value, better_placed, named}

-- a zone's value of quantity q, as it was read
module _ (t q v : ℕ) (x : Zone) (h : Held) (read : h ≡ held_of x q) where
  pub holds_all : (n : ℕ) → n ≡ id_of x → h.value ≡ v → t < h.until → not (eqb n 0) ≡ holds_value t q v x
  unfolding holds_value is_joined
  holds_all n i e l = rw (← read, ← i, eq-eqb h.value v e, lt-ltb t h.until l) (go (not (eqb n 0)))
    where
      go : (b : Bool) → b ≡ (b && true)
      go true = refl
      go false = refl

  none : (b c : Bool) → (b && c) ≡ false → (k : Bool) → false ≡ (k && (b && c))
  none b c e true = sym e
  none b c e false = refl

  pub holds_expired : h.until ≤ t → false ≡ holds_value t q v x
  unfolding holds_value
  holds_expired l = rw (← read) (none (ltb t h.until) (eqb h.value v) (rw (le-ltb t h.until l)) (is_joined x))

  pub holds_other : (h.value ≡ v → ⊥) → false ≡ holds_value t q v x
  unfolding holds_value
  holds_other e = rw (← read) (none (ltb t h.until) (eqb h.value v) (rw (ne_eqb h.value v e) (go (ltb t h.until))) (is_joined x))
    where
      go : (b : Bool) → (b && false) ≡ false
      go true = refl
      go false = refl

module _ (p : Zone → Bool) (a x : Zone) where
  pub placed_first : p x ≡ true → is_joined a ≡ false → x ≡ better_placed p a x
  unfolding better_placed
  placed_first e f = rw (e, f)

  pub placed_better : p x ≡ true → is_joined a ≡ true → x.precedence < a.precedence → x ≡ better_placed p a x
  unfolding better_placed
  placed_better e f h = rw (e, f, lt-ltb x.precedence a.precedence h)

  pub placed_stays : is_joined a ≡ true → a.precedence ≤ x.precedence → a ≡ better_placed p a x
  unfolding better_placed
  placed_stays f h = rw (f, le-ltb x.precedence a.precedence h) (go (p x))
    where
      go : (b : Bool) → a ≡ cond (b && false) x a
      go true = refl
      go false = refl

  pub placed_fails : p x ≡ false → a ≡ better_placed p a x
  unfolding better_placed
  placed_fails e = rw e

-- a slot that a zone has
pub named-zone : (s : Situation) (q : ℕ) (x : Zone) (n : ℕ) (h : Held) → n ≡ id_of x → (n ≡ 0 → ⊥) → h ≡ held_of x q → record { who = n; until = h.until } ≡ named s q x
unfolding named is_joined
named-zone s q x n h i e k = rw (ne_eqb (id_of x) 0 (λ z. e (i ∙ z)), i, k)
