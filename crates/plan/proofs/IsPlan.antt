-- The plan is in order, sound and whole, and no other list is.
use Prim.Native.Nat.{ℕ, zero, suc, ◌+◌, ◌-◌, ◌<◌, ◌≤◌}
use mathlib.Core.Path.{◌≡◌, refl, sym, ap, ◌∙◌, subst}
use mathlib.Core.Bool.{Bool, true, false}
use mathlib.Core.Logic.{◌⊎◌, inl, inr, ⊎_elim, ite}
use mathlib.Core.List.Memᴰ
use mathlib.Core.List.{List, [], ◌∷◌, Memᴰ, List-discrete}
use native.Mathlib.Decide.{ℕ_discrete}
use native.Mathlib.Omega.{arith}
use lib.Dec.{leb}
use lib.IntN.{ℤ, ℤ_discrete}
use borrow.Author.Tests.{leb-true, leb-false}
use Rattle.device_holds.specs.Holds.{Situation, values_at}
use Rattle.plan.specs.Plan.{plan_of}
use Rattle.plan.specs.Rows.{last, rows_of, plan, Changes, Ascending, IsPlan}

abbrev Row : Type 0
Row = ℕ × List ℤ

-- every row of an ascending list lies past its start
pub past : (a : ℕ) (rs : List Row) → Ascending a rs → (r : Row) → Memᴰ r rs → a < r.0
unfolding Ascending
past a [] o r m = absurd (Memᴰ.not-nil m)
past a (x ∷ rs) o r m =
    ⊎_elim
    (λ e. subst (λ (y : Row). a < y.0) (sym e) o.0)
    (λ k. let h = past x.0 rs o.1 r k in omega arith)
    (Memᴰ.cases_cons m)

-- all members of one list are members of the other
abbrev In : List Row → List Row → Type 0
In i j = (r : Row) → Memᴰ r i → Memᴰ r j

-- the members of two ascending lists agree behind equal heads
behind : (x y : Row) (i j : List Row) → Ascending x.0 i → x ≡ y → In (x ∷ i) (y ∷ j) → In i j
behind x y i j o e all r m =
    ⊎_elim
    (λ q. let h = past x.0 i o r m in let z : r.0 ≡ x.0 = ap (λ (v : Row). v.0) (q ∙ sym e) in absurd (omega arith))
    (λ k. k)
    (Memᴰ.cases_cons (all r (Memᴰ.tail m)))

-- two ascending lists with the same members are one
ascending_unique : (a : ℕ) (i j : List Row) → Ascending a i → Ascending a j → In i j → In j i → i ≡ j
unfolding Ascending
ascending_unique a [] [] o p to from = refl
ascending_unique a [] (y ∷ j) o p to from = absurd (Memᴰ.not-nil (from y (Memᴰ.head refl)))
ascending_unique a (x ∷ i) [] o p to from = absurd (Memᴰ.not-nil (to x (Memᴰ.head refl)))
ascending_unique a (x ∷ i) (y ∷ j) o p to from =
    both (heads (Memᴰ.cases_cons (to x (Memᴰ.head refl))) (Memᴰ.cases_cons (from y (Memᴰ.head refl)))) (λ k. ascending_unique x.0 i j o.1 k)
  where
    heads : (x ≡ y) ⊎ Memᴰ x j → (y ≡ x) ⊎ Memᴰ y i → x ≡ y
    heads (inl e) d = e
    heads (inr m) (inl e) = sym e
    heads (inr m) (inr k) = let h = past y.0 j p.1 x m in let g = past x.0 i o.1 y k in absurd (omega arith)

    both : x ≡ y → (Ascending x.0 j → In i j → In j i → i ≡ j) → x ∷ i ≡ y ∷ j
    both e rest =
        let t : i ≡ j = rest (subst (λ (z : Row). Ascending z.0 j) (sym e) p.1) (behind x y i j o.1 e to) (behind y x j i p.1 (sym e) from) in
        cc

module _ (f : ℕ → List ℤ) where
  abbrev same : (t : ℕ) → Dec (f (suc t) ≡ f t)
  same t = List-discrete ℤ_discrete (f (suc t)) (f t)

  rows-ascending : (n now : ℕ) → Ascending now (rows_of f now n)
  unfolding Ascending rows_of
  rows-ascending zero now = tt
  rows-ascending (suc n) now = go (same now) (rows-ascending n (suc now))
    where
      lower : (rs : List Row) → Ascending (suc now) rs → Ascending now rs
      lower [] o = tt
      lower (x ∷ rs) o = (omega arith, o.1)

      go : (d : Dec (f (suc now) ≡ f now)) → Ascending (suc now) (rows_of f (suc now) n) → Ascending now (ite d (rows_of f (suc now) n) ((suc now, f (suc now)) ∷ rows_of f (suc now) n))
      go (yes e) o = lower (rows_of f (suc now) n) o
      go (no e) o = (omega arith, o)

  -- what a row of a plan that ends at second b is
  abbrev Sound : ℕ → Row → Type 0
  Sound b r = (r.0 ≤ b) × Changes f r.0 × (r.1 ≡ f r.0)

  rows-sound : (n now : ℕ) (r : Row) → Memᴰ r (rows_of f now n) → Sound (now + n) r
  unfolding rows_of Changes
  rows-sound zero now r m = absurd (Memᴰ.not-nil m)
  rows-sound (suc n) now r m = go (same now) m (λ k. let s = rows-sound n (suc now) r k in (omega arith, s.1, s.2))
    where
      go : (d : Dec (f (suc now) ≡ f now)) → Memᴰ r (ite d (rows_of f (suc now) n) ((suc now, f (suc now)) ∷ rows_of f (suc now) n))
          → (Memᴰ r (rows_of f (suc now) n) → Sound (now + suc n) r) → Sound (now + suc n) r
      go (yes e) k later = later k
      go (no e) k later = ⊎_elim (λ q. subst (Sound (now + suc n)) (sym q) (omega arith, e, refl)) later (Memᴰ.cases_cons k)

  rows_whole : (n now t : ℕ) → now < t → t ≤ now + n → Changes f t → Memᴰ (t, f t) (rows_of f now n)
  unfolding rows_of Changes
  rows_whole zero now t h g c = absurd (omega arith)
  rows_whole (suc n) now t h g c = go (same now) (ℕ_discrete t (suc now)) (λ q. rows_whole n (suc now) t (omega arith) (omega arith) c)
    where
      go : (d : Dec (f (suc now) ≡ f now)) → Dec (t ≡ suc now) → ((t ≡ suc now → ⊥) → Memᴰ (t, f t) (rows_of f (suc now) n))
          → Memᴰ (t, f t) (ite d (rows_of f (suc now) n) ((suc now, f (suc now)) ∷ rows_of f (suc now) n))
      go (yes e) (yes q) later = absurd (subst (Changes f) q c e)
      go (yes e) (no q) later = later q
      go (no e) (yes q) later = Memᴰ.head (ap (λ (y : ℕ). (y, f y)) q)
      go (no e) (no q) later = Memᴰ.tail (later q)

  -- past the last second there is no row, and no second to have one
  none_after : (now : ℕ) → last < now → IsPlan f now (rows_of f now 0)
  unfolding rows_of Ascending
  none_after now h = record { ascending = tt; sound = λ r m. absurd (Memᴰ.not-nil m); whole = λ t a b c. absurd (omega arith) }

  -- the plan is one: ascending, sound and whole
  pub plan-is : (now : ℕ) → IsPlan f now (plan f now)
  unfolding plan
  plan-is now = go (leb now last) refl
    where
      go : (b : Bool) → leb now last ≡ b → IsPlan f now (rows_of f now (last - now))
      go true e =
          let h = leb-true now last e in
          record {
            ascending = rows-ascending (last - now) now;
            sound = λ r m. let s = rows-sound (last - now) now r m in (omega arith, s.1, s.2);
            whole = λ t a b c. rows_whole (last - now) now t a (omega arith) c;
          }
      go false e =
          let h = leb-false now last e in
          let z : last - now ≡ 0 = omega arith in
          subst (λ (n : ℕ). IsPlan f now (rows_of f now n)) (sym z) (none_after now h)

  -- and there is only one
  pub plan-unique : (now : ℕ) (i j : List Row) → IsPlan f now i → IsPlan f now j → i ≡ j
  plan-unique now i j a b = ascending_unique now i j a.ascending b.ascending (into i j a b) (into j i b a)
    where
      into : (i j : List Row) → IsPlan f now i → IsPlan f now j → In i j
      into i j a b r m =
          let s = a.sound r m in
          subst (λ (w : List ℤ). Memᴰ (r.0, w) j) (sym s.2) (b.whole r.0 (past now i a.ascending r m) s.0 s.1)

-- the plan of a device is the one list that is a plan of what holds at each second
pub plan_of-is : (s : Situation) (now : ℕ) → IsPlan (values_at s) now (plan_of s now)
unfolding plan_of
plan_of-is s now = plan-is (values_at s) now

pub plan_of-only : (s : Situation) (now : ℕ) (rows : List Row) → IsPlan (values_at s) now rows → rows ≡ plan_of s now
plan_of-only s now rows p = plan-unique (values_at s) now rows (plan_of s now) p (plan_of-is s now)
