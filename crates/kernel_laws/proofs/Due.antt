-- Every second at which what holds can change is a candidate.
use Prim.Native.Nat.{ℕ, zero, suc, ◌+◌, ◌*◌, ◌/◌, ◌%◌, ◌<◌, ◌≤◌}
use mathlib.Core.Bool.{Bool, true, false, cond, ◌||◌}
use mathlib.Core.Path.{◌≡◌, refl, ap, ◌∙◌}
use mathlib.Core.Logic.{⊎_elim}
use mathlib.Core.List.Memᴰ
use mathlib.Core.List.{List, [], ◌∷◌, ◌++◌, Memᴰ}
use native.Mathlib.Decide.{ℕ_discrete}
use native.Mathlib.Omega.{arith}
use lib.Dec.{ltb, eqb}
use lib.ListN.{length}
use borrow.Author.Tests.{lt-ltb, ltb-true, eq-eqb}
use Rattle.device_store.specs.Quantities.{lowest_values, leading_setpoints, low_at, lead_at}
use Rattle.device_store.specs.Sizes.{end, slots, helds}
use Rattle.device_store.specs.Zones.{up_to, any, is_joined, held_of, any_up, any_joined}
use Rattle.device_store.specs.declared.Zone.{Zone}
use Rattle.device_holds.specs.Holds.{Situation}
use Rattle.device_holds.specs.Dues.{zone_dues, held_dues, low_dues, lead_dues, dues}
use Rattle.plan_plain.specs.Candidates.{expiry_at, failsafe_end, expiries, candidate_at, candidates_of}
use Rattle.plan_plain.specs.Plain.{is_one_of}

abbrev Mem : ℕ → List ℕ → Type 0
Mem t l = Memᴰ t l

-- MEMBERS of a run
up_to-mem : (f : ℕ → ℕ) (n t : ℕ) → Mem t (up_to f n) → (k : ℕ) × (k < n) × (t ≡ f k)
unfolding up_to
up_to-mem f zero t m = absurd (Memᴰ.not-nil m)
up_to-mem f (suc n) t m =
    ⊎_elim
    (λ l. let p = up_to-mem f n t l in (p.0, omega (arith, p.1), p.2))
    (λ r. ⊎_elim (λ e. (n, omega arith, e)) (λ z. absurd (Memᴰ.not-nil z)) (Memᴰ.cases_cons r))
    (Memᴰ.append_cases (up_to f n) m)

one_left : (t : ℕ) (a b : List ℕ) → is_one_of t a ≡ true → is_one_of t (a ++ b) ≡ true
unfolding is_one_of any
one_left t [] b h = absurd (let z : ◌≡◌ {A = ℕ} 0 1 = cc in omega arith)
one_left t (x ∷ a) b h = go (eqb t x) h (one_left t a b)
  where
    go : (c : Bool) → (c || any (λ k. eqb t k) a) ≡ true → (any (λ k. eqb t k) a ≡ true → any (λ k. eqb t k) (a ++ b) ≡ true) → (c || any (λ k. eqb t k) (a ++ b)) ≡ true
    go true g rest = refl
    go false g rest = rest g

one_right : (t : ℕ) (a b : List ℕ) → is_one_of t b ≡ true → is_one_of t (a ++ b) ≡ true
unfolding is_one_of any
one_right t [] b h = h
one_right t (x ∷ a) b h = go (eqb t x) (one_right t a b h)
  where
    go : (c : Bool) → any (λ k. eqb t k) (a ++ b) ≡ true → (c || any (λ k. eqb t k) (a ++ b)) ≡ true
    go true g = refl
    go false g = g

one_only : (t c : ℕ) → t ≡ c → is_one_of t (c ∷ []) ≡ true
unfolding is_one_of any
one_only t c e = rw (eq-eqb t c e)

one-up_to : (f : ℕ → ℕ) (n k t : ℕ) → k < n → t ≡ f k → is_one_of t (up_to f n) ≡ true
unfolding up_to
one-up_to f zero k t h e = absurd (omega arith)
one-up_to f (suc n) k t h e =
    elim (ℕ_discrete k n) [
      | yes q ↦ one_right t (up_to f n) (f n ∷ []) (one_only t (f n) (e ∙ ap f q))
      | no q ↦ one_left t (up_to f n) (f n ∷ []) (one-up_to f n k t (omega arith) e)
    ]

-- A HELD END is the expiry of some slot and quantity
abbrev Expiry : (ℕ → ℕ) → ℕ → List Zone → ℕ → Type 0
Expiry at n zs t = (i : ℕ) × (i < length zs) × (k : ℕ) × (k < n) × (t ≡ expiry_at zs i (at k))

zone_end : (at : ℕ → ℕ) (n : ℕ) (x : Zone) (zs : List Zone) (t : ℕ) → Mem t (zone_dues at n x) → Expiry at n (x ∷ zs) t
unfolding zone_dues expiry_at
zone_end at n x zs t m = go (is_joined x) refl m
  where
    go : (b : Bool) → is_joined x ≡ b → Mem t (cond b (up_to (λ k. (held_of x (at k)).until) n) []) → Expiry at n (x ∷ zs) t
    go true e l = let p = up_to-mem (λ k. (held_of x (at k)).until) n t l in (0, omega arith, p.0, p.1, p.2 ∙ rw e)
    go false e l = absurd (Memᴰ.not-nil l)

held-end : (at : ℕ → ℕ) (n : ℕ) (zs : List Zone) (t : ℕ) → Mem t (held_dues at n zs) → Expiry at n zs t
unfolding held_dues expiry_at
held-end at n [] t m = absurd (Memᴰ.not-nil m)
held-end at n (x ∷ zs) t m =
    ⊎_elim
    (zone_end at n x zs t)
    (λ r. let p = held-end at n zs t r in (suc p.0, omega (arith, p.1), p.2, p.3, p.4))
    (Memᴰ.append_cases (zone_dues at n x) m)

module _ (s : Situation) (few : length s.zones ≤ slots) where
  -- and so a candidate
  expiry_one : (i q t : ℕ) → i < length s.zones → q < helds → t ≡ expiry_at s.zones i q → is_one_of t (candidates_of s) ≡ true
  unfolding candidates_of candidate_at
  expiry_one i q t h g e =
      let a : (i * helds + q) / helds ≡ i = omega arith in
      let b : (i * helds + q) % helds ≡ q = omega arith in
      one-up_to (candidate_at s) (expiries + 1) (i * helds + q) t (omega arith) (e ∙ rw (lt-ltb (i * helds + q) expiries (omega arith), a, b))

  held_one : (at : ℕ → ℕ) (n : ℕ) → ((k : ℕ) → k < n → at k < helds) → (t : ℕ) → Mem t (held_dues at n s.zones) → is_one_of t (candidates_of s) ≡ true
  held_one at n known t m = let p = held-end at n s.zones t m in expiry_one p.0 (at p.2) t p.1 (known p.2 p.3) p.4

  low_known : (k : ℕ) → k < lowest_values → low_at k < helds
  unfolding low_at
  low_known k h = go (ltb k 2) refl
    where
      go : (b : Bool) → ltb k 2 ≡ b → cond b k (k + 2) < helds
      go true e = omega (arith, ltb-true)
      go false e = omega arith

  low_one : (t : ℕ) → Mem t (low_dues s.zones) → is_one_of t (candidates_of s) ≡ true
  low_one t m = held_one low_at lowest_values low_known t m

  lead_one : (t : ℕ) → Mem t (lead_dues s.zones) → is_one_of t (candidates_of s) ≡ true
  lead_one t m = held_one lead_at leading_setpoints (λ k h. omega arith) t m

  failsafe_one : (t : ℕ) → t < end → t ≡ s.since + s.settings.duration → is_one_of t (candidates_of s) ≡ true
  unfolding candidates_of candidate_at failsafe_end
  failsafe_one t h e =
      one-up_to (candidate_at s) (expiries + 1) expiries t (omega arith)
      (e ∙ rw (lt-ltb (s.since + s.settings.duration) end (omega arith)))

  -- every due second before the end is a candidate
  pub due_one : (t : ℕ) → t < end → Mem t (dues s) → is_one_of t (candidates_of s) ≡ true
  unfolding dues
  due_one t h m = go (any_up s.zones) (any_joined s.zones) m
    where
      go : (u j : Bool) → Mem t (cond u (low_dues s.zones ++ lead_dues s.zones) (cond j ((s.since + s.settings.duration) ∷ low_dues s.zones) [])) → is_one_of t (candidates_of s) ≡ true
      go true j l = ⊎_elim (low_one t) (lead_one t) (Memᴰ.append_cases (low_dues s.zones) l)
      go false true l = ⊎_elim (failsafe_one t h) (low_one t) (Memᴰ.cases_cons l)
      go false false l = absurd (Memᴰ.not-nil l)
