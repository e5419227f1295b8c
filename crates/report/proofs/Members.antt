-- Where a kept element stands, and what is kept of an ascending list.
use Prim.Native.Nat.{ℕ, zero, suc, ◌<◌}
use mathlib.Core.Bool.{Bool, true, false, ◌&&◌, ◌||◌, cond}
use mathlib.Core.Path.{◌≡◌, refl, ap, ◌∙◌}
use mathlib.Core.Logic.{inl, inr, ⊎_elim}
use mathlib.Core.List.{List, [], ◌∷◌, Memᴰ}
use native.Mathlib.Nat.{not-suc-le-zero, le_of_suc-le-suc}
use lib.Dec.{eqb, ltb}
use lib.ListN.{length, get_or}
use borrow.Author.Tests.{ltb-true, eqb-true}
use Rattle.report.specs.Lists.{keep}
use Rattle.report.specs.Statements.{Before, Ascending}
use Rattle.report.specs.declared.breaches.Pair.{Pair}
use Rattle.report.proofs.Bools.{and_left, and_right, or_cases}

pub stands : {A : Type 0} (l : List A) (d : A) (k : ℕ) → k < length l → Memᴰ (get_or l k d) l
stands [] d k h = absurd (not-suc-le-zero h)
stands (x ∷ l) d zero h = Memᴰ.head refl
stands (x ∷ l) d (suc k) h = Memᴰ.tail (stands l d k (le_of_suc-le-suc h))

module _ {A : Type 0} (p : A → Bool) where
  -- what is kept passes the test, and stood in the list
  pub kept : (x : A) (l : List A) → Memᴰ x (keep p l) → (p x ≡ true) × Memᴰ x l
  unfolding keep
  kept x [] m = elim m [ ]
  kept x (y ∷ l) m = go (p y) refl (λ m. kept x l m) m
    where
      go : (b : Bool) → p y ≡ b → (Memᴰ x (keep p l) → (p x ≡ true) × Memᴰ x l)
          → Memᴰ x (cond b (y ∷ keep p l) (keep p l)) → (p x ≡ true) × Memᴰ x (y ∷ l)
      go true e later (Memᴰ.head f) = (ap p f ∙ e, Memᴰ.head f)
      go true e later (Memᴰ.tail m) = ((later m).0, Memᴰ.tail (later m).1)
      go false e later m = ((later m).0, Memᴰ.tail (later m).1)

  -- what stands in the list and passes is kept
  pub keeps : (x : A) (l : List A) → p x ≡ true → Memᴰ x l → Memᴰ x (keep p l)
  unfolding keep
  keeps x [] e m = elim m [ ]
  keeps x (y ∷ l) e (Memᴰ.head f) = rw (← f, e) (Memᴰ.head refl)
  keeps x (y ∷ l) e (Memᴰ.tail m) = go (p y) (keeps x l e m)
    where
      go : (b : Bool) → Memᴰ x (keep p l) → Memᴰ x (cond b (y ∷ keep p l) (keep p l))
      go true m = Memᴰ.tail m
      go false m = m

pub keep-ascending : (p : Pair → Bool) (l : List Pair) → Ascending l → Ascending (keep p l)
unfolding keep Ascending
keep-ascending p [] a = tt
keep-ascending p (x ∷ l) a = go (p x) (keep-ascending p l a.1)
  where
    go : (b : Bool) → Ascending (keep p l) → Ascending (cond b (x ∷ keep p l) (keep p l))
    go true r = ((λ q m. a.0 q (kept p q l m).1), r)
    go false r = r

-- ascent as a test
abbrev before : Pair → Pair → Bool
before p q = ltb p.group q.group || (eqb p.group q.group && ltb p.number q.number)

before_true : (p q : Pair) → before p q ≡ true → Before p q
before_true p q e =
    ⊎_elim (λ f. inl (ltb-true _ _ f))
    (λ f. inr (eqb-true _ _ (and_left _ _ f), ltb-true _ _ (and_right (eqb p.group q.group) _ f)))
    (or_cases (ltb p.group q.group) _ e)

abbrev before_all : Pair → List Pair → Bool
before_all p [] = true
before_all p (q ∷ qs) = before p q && before_all p qs

abbrev pub in_order : List Pair → Bool
in_order [] = true
in_order (p ∷ ps) = before_all p ps && in_order ps

before-all : (p q : Pair) (qs : List Pair) → before_all p qs ≡ true → Memᴰ q qs → Before p q
before-all p q [] e m = elim m [ ]
before-all p q (x ∷ qs) e (Memᴰ.head f) = rw f (before_true p x (and_left _ (before_all p qs) e))
before-all p q (x ∷ qs) e (Memᴰ.tail m) = before-all p q qs (and_right (before p x) _ e) m

pub in_order_lem : (ps : List Pair) → in_order ps ≡ true → Ascending ps
unfolding Ascending
in_order_lem [] e = tt
in_order_lem (p ∷ ps) e = ((λ q m. before-all p q ps (and_left _ (in_order ps) e) m), in_order_lem ps (and_right (before_all p ps) _ e))
