-- How many zones are joined: by the free slots of a device, and by the history.
use mathlib.Core.Path.{◌≡◌, refl, sym, ap, ◌∙◌}
use mathlib.Core.Logic.{◌≢◌, ◌⊎◌, inl, inr, ⊎_elim}
use mathlib.Core.Bool.{Bool, true, false, cond, not}
use mathlib.Core.List.Memᴰ
use mathlib.Core.List.{List, [], ◌∷◌, Memᴰ}
use Prim.Native.Nat.{ℕ, zero, suc, ◌≤◌, ◌<◌}
use native.Mathlib.Omega.{arith}
use native.Mathlib.Nat.{le_antisymm}
use lib.Dec.{leb, eqb, leb-suc-suc}
use lib.ListN.{length}
use borrow.Author.Tests.{eqb-true, eqb-false, lt-leb}
use Rattle.device_store.specs.declared.Zone.{Zone}
use Rattle.device_store.specs.declared.Settings.{Settings}
use Rattle.device_store.specs.Sizes.{slots}
use Rattle.device_store.specs.Zones.{id_of, free_zone, first, is_joined, slot_of}
use Rattle.demands.specs.History.{Log, joined_by, record_by, zones_to, zones_by}
use Rattle.demands.proofs.Lists.{mem-get_d}
use Rattle.demands.proofs.Same.{at, Same, mem-listed, record_id, is_joined-low, listed-joined, slots-within, history-within}

-- a list without the zones of one id is shorter than one that has such a zone
without : ℕ → List Zone → List Zone
without z [] = []
without z (x ∷ l) = cond (eqb (id_of x) z) (without z l) (x ∷ without z l)

without_le : (z : ℕ) (l : List Zone) → length (without z l) ≤ length l
unfolding without
without_le z [] = omega arith
without_le z (x ∷ l) = go (eqb (id_of x) z) (without_le z l)
  where
    go : (b : Bool) → length (without z l) ≤ length l → length (cond b (without z l) (x ∷ without z l)) ≤ suc (length l)
    go true h = omega arith
    go false h = omega arith

without_lt : (l : List Zone) (x : Zone) → Memᴰ x l → length (without (id_of x) l) < length l
unfolding without
without_lt [] x m = absurd (Memᴰ.not-nil m)
without_lt (y ∷ l) x m = go (eqb (id_of y) (id_of x)) refl (⊎_elim inl (λ k. inr (without_lt l x k)) (Memᴰ.cases_cons m))
  where
    go : (b : Bool) → eqb (id_of y) (id_of x) ≡ b → (x ≡ y) ⊎ (length (without (id_of x) l) < length l) → length (cond b (without (id_of x) l) (y ∷ without (id_of x) l)) < suc (length l)
    go true p q = omega (arith, without_le (id_of x) l)
    go false p (inl q) = absurd (eqb-false (id_of y) (id_of x) p (ap id_of (sym q)))
    go false p (inr k) = omega arith

without_mem : (z : ℕ) (l : List Zone) (x : Zone) → Memᴰ x l → id_of x ≢ z → Memᴰ x (without z l)
unfolding without
without_mem z [] x m n = m
without_mem z (y ∷ l) x m n = go (eqb (id_of y) z) refl (⊎_elim inl (λ k. inr (without_mem z l x k n)) (Memᴰ.cases_cons m))
  where
    go : (b : Bool) → eqb (id_of y) z ≡ b → (x ≡ y) ⊎ Memᴰ x (without z l) → Memᴰ x (cond b (without z l) (y ∷ without z l))
    go true p (inl q) = absurd (n (ap id_of q ∙ eqb-true (id_of y) z p))
    go true p (inr k) = k
    go false p (inl q) = Memᴰ.head q
    go false p (inr k) = Memᴰ.tail k

-- zones of different ids that are all in a list are no more than it has
Distinct : List Zone → Type 0
Distinct [] = Unit {0}
Distinct (x ∷ l) = ((y : Zone) → Memᴰ y l → id_of y ≢ id_of x) × Distinct l

fits : (l m : List Zone) → Distinct l → ((x : Zone) → Memᴰ x l → Memᴰ x m) → length l ≤ length m
unfolding Distinct
fits [] m d t = omega arith
fits (x ∷ l) m d t =
    let less = without_lt m x (t x (Memᴰ.head refl)) in
    let rest = fits l (without (id_of x) m) d.1 (λ y k. without_mem (id_of x) m y (t y (Memᴰ.tail k)) (d.0 y k)) in
    omega arith

-- the joined zones of the slots
live : List Zone → List Zone
live [] = []
live (x ∷ l) = cond (is_joined x) (x ∷ live l) (live l)

live_mem : (l : List Zone) (x : Zone) → Memᴰ x (live l) → Memᴰ x l × (is_joined x ≡ true)
unfolding live
live_mem [] x m = absurd (Memᴰ.not-nil m)
live_mem (y ∷ l) x m = go (is_joined y) refl m (live_mem l x)
  where
    go : (b : Bool) → is_joined y ≡ b → Memᴰ x (cond b (y ∷ live l) (live l)) → (Memᴰ x (live l) → Memᴰ x l × (is_joined x ≡ true)) → Memᴰ x (y ∷ l) × (is_joined x ≡ true)
    go true p m ih = ⊎_elim (λ e. (Memᴰ.head e, ap is_joined e ∙ p)) (λ k. let r = ih k in (Memᴰ.tail r.0, r.1)) (Memᴰ.cases_cons m)
    go false p m ih = let r = ih m in (Memᴰ.tail r.0, r.1)

mem-live : (l : List Zone) (x : Zone) → Memᴰ x l → is_joined x ≡ true → Memᴰ x (live l)
unfolding live
mem-live [] x m j = m
mem-live (y ∷ l) x m j = go (is_joined y) refl (⊎_elim inl (λ k. inr (mem-live l x k j)) (Memᴰ.cases_cons m))
  where
    go : (b : Bool) → is_joined y ≡ b → (x ≡ y) ⊎ Memᴰ x (live l) → Memᴰ x (cond b (y ∷ live l) (live l))
    go true p (inl e) = Memᴰ.head e
    go true p (inr k) = Memᴰ.tail k
    go false p (inl e) = absurd (let w : ◌≡◌ {A = Bool} false true = sym p ∙ ap is_joined (sym e) ∙ j in let z : ◌≡◌ {A = ℕ} 0 1 = cc in omega arith)
    go false p (inr k) = k

live_le : (l : List Zone) → length (live l) ≤ length l
unfolding live
live_le [] = omega arith
live_le (x ∷ l) = go (is_joined x) (live_le l)
  where
    go : (b : Bool) → length (live l) ≤ length l → length (cond b (x ∷ live l) (live l)) ≤ suc (length l)
    go true h = omega arith
    go false h = omega arith

-- no slot is free exactly where every slot's zone is joined
full_live : (l : List Zone) → leb (length l) (slot_of l 0) ≡ leb (length l) (length (live l))
unfolding live slot_of first is_joined
full_live [] = refl
full_live (x ∷ l) = go (eqb (id_of x) 0) (full_live l)
  where
    go : (b : Bool) → leb (length l) (slot_of l 0) ≡ leb (length l) (length (live l))
        → leb (suc (length l)) (cond b 0 (suc (slot_of l 0))) ≡ leb (suc (length l)) (length (cond (not b) (x ∷ live l) (live l)))
    go true ih = lt-leb (suc (length l)) 0 (omega arith) ∙ sym (lt-leb (suc (length l)) (length (live l)) (omega (arith, live_le l)))
    go false ih = leb-suc-suc (length l) (slot_of l 0) ∙ ih ∙ sym (leb-suc-suc (length l) (length (live l)))

-- each zone has one slot, so the joined zones of the slots have different ids
distinct_live : (l : List Zone) → ((i j : ℕ) → i < length l → j < length l → 1 ≤ id_of (at l i) → id_of (at l i) ≡ id_of (at l j) → i ≡ j) → Distinct (live l)
unfolding live Distinct
distinct_live [] one = tt
distinct_live (x ∷ l) one = go (is_joined x) refl (distinct_live l (λ i j a b c d. let e = one (suc i) (suc j) (omega arith) (omega arith) c d in omega arith))
  where
    apart : is_joined x ≡ true → (y : Zone) → Memᴰ y (live l) → id_of y ≢ id_of x
    apart j y m e =
        let r = mem-get_d l y free_zone (live_mem l y m).0 in
        let w = one 0 (suc r.0) (omega arith) (omega (arith, r.1)) (is_joined-low x j) (sym e ∙ ap id_of (sym r.2)) in
        omega arith

    go : (b : Bool) → is_joined x ≡ b → Distinct (live l) → Distinct (cond b (x ∷ live l) (live l))
    go true p d = (apart p, d)
    go false p d = d

distinct_listed : (s : Settings) (h : Log) (n : ℕ) → n ≤ 255 → Distinct (zones_to s h n)
unfolding zones_to Distinct
distinct_listed s h zero p = tt
distinct_listed s h (suc n) p = go (joined_by h (suc n)) (distinct_listed s h n (omega arith))
  where
    go : (b : Bool) → Distinct (zones_to s h n) → Distinct (cond b (record_by s h (suc n) ∷ zones_to s h n) (zones_to s h n))
    go true d = (λ y m e. omega (arith, (mem-listed s h n (omega arith) y m).high, record_id s h (suc n) p), d)
    go false d = d

module _ (s : Settings) (zs : List Zone) (h : Log) (k : Same s zs h) where
  count_same : length (live zs) ≡ length (zones_by s h)
  count_same =
      le_antisymm
      (fits (live zs) (zones_by s h) (distinct_live zs (rw k.size k.one)) (λ x m. let r = live_mem zs x m in (slots-within s zs h k).has x r.1 r.0))
      (fits (zones_by s h) (live zs) (distinct_listed s h 255 (omega arith)) (λ x m. let j = listed-joined s h 255 (omega arith) x m in mem-live zs x ((history-within s zs h k).has x j m) j))

  -- eight zones joined
  pub full_same : leb slots (slot_of zs 0) ≡ leb slots (length (zones_by s h))
  full_same = let f = full_live zs in rw (← count_same) (rw k.size at f)

  pub at_most : length (zones_by s h) ≤ slots
  at_most = omega (arith, count_same, live_le zs, k.size)
