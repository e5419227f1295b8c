-- The slots: what a search finds, and where a joined zone sits.
use Prim.Native.Nat.{ℕ, zero, suc, ◌<◌, ◌≤◌}
use mathlib.Core.Bool.{Bool, true, false, cond, ◌&&◌}
use mathlib.Core.Path.{◌≡◌, refl, sym, ap, ◌∙◌}
use mathlib.Core.List.{List, [], ◌∷◌}
use native.Mathlib.Nat.{le_of_suc-le-suc, not-suc-le-zero}
use native.Mathlib.Omega.{arith}
use borrow.Author.Tests.{ltb-true, ltb-false, le-ltb, lt-ltb, eqb-true, eq-eqb}
use lib.Dec.{ltb, eqb}
use lib.ListN.{length, get_or, set}
use Rattle.device_store.specs.Sizes.{slots}
use Rattle.device_store.specs.Zones.{id_of, rank_of, free_zone, new_zone, first, slot_of, joined}
use Rattle.device_store.specs.declared.Zone.{Zone}

module _ {A : Type 0} (p : A → Bool) where
  passes_at : (x : A) (l : List A) (d : A) → (first p l < length l → p (get_or l (first p l) d) ≡ true) → (b : Bool) → p x ≡ b
      → cond b 0 (suc (first p l)) < suc (length l) → p (get_or (x ∷ l) (cond b 0 (suc (first p l))) d) ≡ true
  passes_at x l d ih true e h = e
  passes_at x l d ih false e h = ih (le_of_suc-le-suc h)

  -- what is found passes the test
  pub first_passes : (l : List A) (d : A) → first p l < length l → p (get_or l (first p l) d) ≡ true
  unfolding first
  first_passes [] d h = absurd (not-suc-le-zero h)
  first_passes (x ∷ l) d h = passes_at x l d (first_passes l d) (p x) refl h

  -- what alone passes is found where it was stored
  new_at : (y : A) (l : List A) (i : ℕ) (x : A) → (length l ≤ first p l → first p (set l i x) ≡ i) → (b : Bool) → p y ≡ b
      → suc (length l) ≤ cond b 0 (suc (first p l)) → cond b 0 (suc (first p (set l i x))) ≡ suc i
  new_at y l i x ih true e h = absurd (not-suc-le-zero h)
  new_at y l i x ih false e h = ap suc (ih (le_of_suc-le-suc h))

  pub first-new : (l : List A) (i : ℕ) (x : A) → i < length l → p x ≡ true → length l ≤ first p l → first p (set l i x) ≡ i
  unfolding first
  first-new [] i x h e n = absurd (not-suc-le-zero h)
  first-new (y ∷ l) zero x h e n = rw e
  first-new (y ∷ l) (suc i) x h e n = new_at y l i x (first-new l i x (le_of_suc-le-suc h) e) (p y) refl n

-- a new zone's id and rank, from its precedence
pub new_id : (z k : ℕ) → z < 256 → id_of (new_zone z k) ≡ z
unfolding id_of
new_id z k h = omega arith

pub new_rank : (z k : ℕ) → z < 256 → rank_of (new_zone z k) ≡ k
unfolding rank_of
new_rank z k h = omega arith

-- the slot that is found is the zone's
pub slot_id : (zs : List Zone) (z : ℕ) → slot_of zs z < length zs → id_of (get_or zs (slot_of zs z) free_zone) ≡ z
unfolding slot_of
slot_id zs z h = eqb-true _ _ (first_passes (λ x. eqb (id_of x) z) zs free_zone h)

-- a zone that was nowhere is found in the slot where it was stored
pub slot_new : (zs : List Zone) (z i : ℕ) (x : Zone) → i < length zs → id_of x ≡ z → length zs ≤ slot_of zs z → slot_of (set zs i x) z ≡ i
unfolding slot_of
slot_new zs z i x h e n = first-new (λ y. eqb (id_of y) z) zs i x h (eq-eqb (id_of x) z e) n

-- a joined zone's number is above 0 and its slot is below the last
module _ (zs : List Zone) (z : ℕ) where
  both : (a b : Bool) → (a && b) ≡ true → (a ≡ true) × (b ≡ true)
  both true b e = (refl, e)
  both false b e = absurd (let n : ◌≡◌ {A = ℕ} 0 1 = cc in omega arith)

  pub joined-above : joined zs z ≡ true → 0 < z
  unfolding joined
  joined-above j = ltb-true 0 z (both (ltb 0 z) (ltb (slot_of zs z) slots) j).0

  pub joined-below : joined zs z ≡ true → slot_of zs z < slots
  unfolding joined
  joined-below j = ltb-true (slot_of zs z) slots (both (ltb 0 z) (ltb (slot_of zs z) slots) j).1

  pub unjoined : 0 < z → joined zs z ≡ false → slots ≤ slot_of zs z
  unfolding joined
  unjoined h j = ltb-false (slot_of zs z) slots (rw (lt-ltb 0 z h) at j)

-- a joined zone's slot, and `slots` for any other number
abbrev pub joined_slot : List Zone → ℕ → ℕ
joined_slot zs z = cond (ltb 0 z) (slot_of zs z) slots

module _ (zs : List Zone) (z : ℕ) where
  pub slot_joined : ltb (joined_slot zs z) slots ≡ joined zs z
  unfolding joined
  slot_joined = go (ltb 0 z)
    where
      go : (b : Bool) → ltb (cond b (slot_of zs z) slots) slots ≡ (b && ltb (slot_of zs z) slots)
      go true = refl
      go false = refl

  pub found : (i : ℕ) → i ≡ joined_slot zs z → i < slots → joined zs z ≡ true
  found i e h = sym slot_joined ∙ lt-ltb (joined_slot zs z) slots (omega arith)

  pub not_found : (i : ℕ) → i ≡ joined_slot zs z → slots ≤ i → joined zs z ≡ false
  not_found i e h = sym slot_joined ∙ le-ltb (joined_slot zs z) slots (omega arith)

  pub found-slot : (i : ℕ) → i ≡ joined_slot zs z → i < slots → i ≡ slot_of zs z
  found-slot i e h = e ∙ rw (lt-ltb 0 z (joined-above zs z (found i e h)))
