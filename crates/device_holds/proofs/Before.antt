-- "Goes before" is an order: no claim goes before itself, of two at most one goes before the other, and "not before" is transitive.
use Prim.Native.Nat.{ℕ, ◌<◌, ◌≤◌}
use mathlib.Core.Bool.{Bool, true, false, cond, ◌&&◌, ◌||◌}
use mathlib.Core.Path.{◌≡◌, refl, sym}
use native.Mathlib.Omega.{arith}
use borrow.Author.Tests.{le-ltb, ltb-true, ltb-false, eqb-true, eqb-false}
use lib.Dec.{ltb, eqb}
use Rattle.device_store.specs.Quantities.{is_setpoint}
use Rattle.device_holds.specs.Holds.{Claim, goes_before}
use Rattle.device_store.proofs.Tests.{never}

-- (rank, id), by rank and then by id
abbrev pub earlier : ℕ → ℕ → ℕ → ℕ → Bool
earlier k i l j = ltb k l || (eqb k l && ltb i j)

pub earlier-self : (k i : ℕ) → earlier k i k i ≡ false
earlier-self k i = rw (le-ltb k k (omega arith), le-ltb i i (omega arith)) (go (eqb k k))
  where
    go : (b : Bool) → (b && false) ≡ false
    go true = refl
    go false = refl

-- what the test says: a smaller rank, or the same and a smaller id
pub not_earlier : (k i l j : ℕ) → earlier k i l j ≡ false → (l ≤ k) × (k ≡ l → j ≤ i)
not_earlier k i l j e = go (ltb k l) (eqb k l) (ltb i j) refl refl refl e
  where
    go : (a b c : Bool) → ltb k l ≡ a → eqb k l ≡ b → ltb i j ≡ c → (a || (b && c)) ≡ false → (l ≤ k) × (k ≡ l → j ≤ i)
    go true b c p q r f = absurd (never f)
    go false true true p q r f = absurd (never f)
    go false true false p q r f = (ltb-false k l p, λ h. ltb-false i j r)
    go false false c p q r f = (ltb-false k l p, λ h. absurd (eqb-false k l q h))

is_not_earlier : (k i l j : ℕ) → l ≤ k → (k ≡ l → j ≤ i) → earlier k i l j ≡ false
is_not_earlier k i l j h f = rw (le-ltb k l h) (go (eqb k l) refl)
  where
    go : (b : Bool) → eqb k l ≡ b → (b && ltb i j) ≡ false
    go true e = le-ltb i j (f (eqb-true k l e))
    go false e = refl

is_earlier : (k i l j : ℕ) → earlier k i l j ≡ true → (k ≤ l) × (k ≡ l → i < j)
is_earlier k i l j e = go (ltb k l) (eqb k l) (ltb i j) refl refl refl e
  where
    go : (a b c : Bool) → ltb k l ≡ a → eqb k l ≡ b → ltb i j ≡ c → (a || (b && c)) ≡ true → (k ≤ l) × (k ≡ l → i < j)
    go true b c p q r f = let h : k < l = ltb-true k l p in (omega arith, λ e. absurd (omega arith))
    go false true true p q r f = let h : k ≡ l = eqb-true k l q in (omega arith, λ e. ltb-true i j r)
    go false true false p q r f = absurd (never (sym f))
    go false false c p q r f = absurd (never (sym f))

module _ (q : ℕ) where
  -- before by rank and id where b holds, by the value where it does not
  abbrev before : Bool → Claim → Claim → Bool
  before b x y = cond b (earlier x.rank x.id y.rank y.id) (ltb x.value y.value)

  pub before_self : (a : Claim) → goes_before q a a ≡ false
  unfolding goes_before
  before_self a = go (is_setpoint q)
    where
      go : (b : Bool) → before b a a ≡ false
      go true = earlier-self a.rank a.id
      go false = le-ltb a.value a.value (omega arith)

  -- of two claims at most one goes before the other
  pub before_asym : (a b : Claim) → goes_before q a b ≡ true → goes_before q b a ≡ false
  unfolding goes_before
  before_asym a b = go (is_setpoint q)
    where
      go : (l : Bool) → before l a b ≡ true → before l b a ≡ false
      go true e =
          let p : (a.rank ≤ b.rank) × (a.rank ≡ b.rank → a.id < b.id) = is_earlier a.rank a.id b.rank b.id e in
          is_not_earlier b.rank b.id a.rank a.id p.0 (λ h. let u : a.id < b.id = p.1 (sym h) in omega arith)
      go false e = le-ltb b.value a.value (omega (arith, ltb-true a.value b.value e))

  -- y does not go before a, nor a before b: y does not go before b
  pub not-before_trans : (y a b : Claim) → goes_before q y a ≡ false → goes_before q a b ≡ false → goes_before q y b ≡ false
  unfolding goes_before
  not-before_trans y a b = go (is_setpoint q)
    where
      go : (l : Bool) → before l y a ≡ false → before l a b ≡ false → before l y b ≡ false
      go true e f =
          let p : (a.rank ≤ y.rank) × (y.rank ≡ a.rank → a.id ≤ y.id) = not_earlier y.rank y.id a.rank a.id e in
          let r : (b.rank ≤ a.rank) × (a.rank ≡ b.rank → b.id ≤ a.id) = not_earlier a.rank a.id b.rank b.id f in
          is_not_earlier y.rank y.id b.rank b.id (omega arith)
          (λ h.
          let u : a.id ≤ y.id = p.1 (omega arith) in
          let w : b.id ≤ a.id = r.1 (omega arith) in
          omega arith)
      go false e f = le-ltb y.value b.value (omega (arith, ltb-false y.value a.value e, ltb-false a.value b.value f))
