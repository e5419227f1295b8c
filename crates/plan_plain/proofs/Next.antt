-- The next candidate is the least past a second, so that no row stands between; and the next row is the first of those to come.
use Prim.Native.Nat.{ℕ, zero, suc, ◌+◌, ◌-◌, ◌<◌, ◌≤◌}
use mathlib.Core.Bool.{Bool, true, false, cond, ◌&&◌, ◌||◌}
use mathlib.Core.Path.{◌≡◌, refl, sym, ap, ◌∙◌}
use mathlib.Core.Logic.{◌⊎◌, inl, inr, ⊎_elim}
use mathlib.Core.List.{List, [], ◌∷◌, foldl}
use native.Mathlib.Decide.{dec_lt}
use native.Mathlib.Nat.{zero-add, suc-add, add-zero}
use native.Mathlib.Omega.{arith}
use lib.Dec.{ltb, eqb}
use lib.ListN.{length}
use borrow.Author.Tests.{ltb-true, ltb-false, eqb-true, eq-eqb}
use Rattle.device_store.specs.Sizes.{end}
use Rattle.device_store.specs.Zones.{any}
use Rattle.device_holds.specs.Holds.{Situation, values_at}
use Rattle.device_holds.specs.Dues.{nearer, nearest}
use Rattle.plan_plain.specs.Candidates.{candidates_of}
use Rattle.device_holds.specs.Alike.{alike}
use Rattle.plan_plain.specs.Plain.{is_one_of, stands, seconds_of, plain_seconds, first_or, next_row}

-- x is r, or the least of the list past t
pub record Least (t r : ℕ) (cs : List ℕ) (x : ℕ) : Type 0 where
  pub within : x ≤ r
  pub least : (e : ℕ) → is_one_of e cs ≡ true → t < e → x ≤ e
  pub found : (x ≡ r) ⊎ ((t < x) × (is_one_of x cs ≡ true))

one_head : (n c : ℕ) (cs : List ℕ) → n ≡ c → is_one_of n (c ∷ cs) ≡ true
unfolding is_one_of any
one_head n c cs e = rw (eq-eqb n c e)

one_tail : (n c : ℕ) (cs : List ℕ) → is_one_of n cs ≡ true → is_one_of n (c ∷ cs) ≡ true
unfolding is_one_of any
one_tail n c cs h = go (eqb n c)
  where
    go : (b : Bool) → (b || any (λ k. eqb n k) cs) ≡ true
    go true = refl
    go false = h

one_cases : (n c : ℕ) (cs : List ℕ) → is_one_of n (c ∷ cs) ≡ true → (n ≡ c) ⊎ (is_one_of n cs ≡ true)
unfolding is_one_of any
one_cases n c cs h = go (eqb n c) refl h
  where
    go : (b : Bool) → eqb n c ≡ b → (b || any (λ k. eqb n k) cs) ≡ true → (n ≡ c) ⊎ (any (λ k. eqb n k) cs ≡ true)
    go true e g = inl (eqb-true n c e)
    go false e g = inr g

one_none : (n : ℕ) → is_one_of n [] ≡ true → ⊥
unfolding is_one_of any
one_none n h = let z : ◌≡◌ {A = ℕ} 0 1 = cc in omega arith

-- one candidate more in front, where v is the nearer of r and it
least_more : (t r c v x : ℕ) (cs : List ℕ) → v ≤ r → (t < c → v ≤ c) → (v ≡ r) ⊎ ((t < c) × (v ≡ c)) → Least t v cs x → Least t r (c ∷ cs) x
least_more t r c v x cs a b k l =
    record {
      within = omega (arith, l.within);
      least = λ e m h. ⊎_elim (λ q. omega (arith, l.within, b (omega arith))) (λ j. l.least e j h) (one_cases e c cs m);
      found = ⊎_elim (λ q. ⊎_elim (λ p. inl (q ∙ p)) (λ p. inr (omega arith, one_head x c cs (q ∙ p.1))) k) (λ j. inr (j.0, one_tail x c cs j.1)) l.found;
    }

fold_least : (t r : ℕ) (cs : List ℕ) → Least t r cs (foldl (nearer t) r cs)
unfolding nearer
fold_least t r [] = record { within = omega arith; least = λ e m. absurd (one_none e m); found = inl refl }
fold_least t r (c ∷ cs) = go (ltb t c) refl (ltb c r) refl (λ v. fold_least t v cs)
  where
    go : (b : Bool) → ltb t c ≡ b → (k : Bool) → ltb c r ≡ k → ((v : ℕ) → Least t v cs (foldl (nearer t) v cs))
        → Least t r (c ∷ cs) (foldl (nearer t) (cond (b && k) c r) cs)
    go true p true q rest = least_more t r c c _ cs (omega (arith, ltb-true)) (λ h. omega arith) (inr (omega (arith, ltb-true), refl)) (rest c)
    go true p false q rest = least_more t r c r _ cs (omega arith) (λ h. omega (arith, ltb-false)) (inl refl) (rest r)
    go false p k q rest = least_more t r c r _ cs (omega arith) (λ h. absurd (omega (arith, ltb-false))) (inl refl) (rest r)

nearest-least : (t : ℕ) (cs : List ℕ) → Least t end cs (nearest t cs)
unfolding nearest
nearest-least t cs = fold_least t end cs

-- SECONDS: those between that do not pass the test are passed over
module _ (p : ℕ → Bool) where
  seconds_quiet : (k a m : ℕ) → ((x : ℕ) → a < x → x ≤ a + k → p x ≡ false) → seconds_of p a (k + m) ≡ seconds_of p (a + k) m
  unfolding seconds_of
  seconds_quiet zero a m q = rw (zero-add, add-zero)
  seconds_quiet (suc k) a m q =
      let e : p (suc a) ≡ false = q (suc a) (omega arith) (omega arith) in
      rw (suc-add k m, e, seconds_quiet k (suc a) m (λ x h g. q x (omega arith) (omega arith))) (ap (λ (y : ℕ). seconds_of p y m) (omega arith))

  pub seconds_few : (n a : ℕ) → length (seconds_of p a n) ≤ n
  unfolding seconds_of
  seconds_few zero a = omega arith
  seconds_few (suc n) a = go (p (suc a)) (seconds_few n (suc a))
    where
      go : (b : Bool) → length (seconds_of p (suc a) n) ≤ n → length (cond b (suc a ∷ seconds_of p (suc a) n) (seconds_of p (suc a) n)) ≤ suc n
      go true h = omega arith
      go false h = omega arith

-- the rows after the second before n, where n is before the end
module _ (s : Situation) where
  seconds_at : (n : ℕ) → 0 < n → n < end → plain_seconds s (n - 1) ≡ cond (stands s n) (n ∷ plain_seconds s n) (plain_seconds s n)
  unfolding plain_seconds seconds_of
  seconds_at zero h g = absurd (omega arith)
  seconds_at (suc m) h g =
      let a : suc m - 1 ≡ m = omega arith in
      let e : end - 1 - m ≡ suc (end - 1 - suc m) = omega arith in
      rw (a, e)

  pub seconds_over : (t : ℕ) → end - 1 ≤ t → plain_seconds s t ≡ []
  unfolding plain_seconds seconds_of
  seconds_over t h = let z : end - 1 - t ≡ 0 = omega arith in ap (λ (n : ℕ). seconds_of (stands s) t n) z

  -- what stands is a candidate
  stands_one : (n : ℕ) → is_one_of n (candidates_of s) ≡ false → stands s n ≡ false
  unfolding stands
  stands_one n h = rw h

  none_between : (t x : ℕ) → t < x → x < nearest t (candidates_of s) → stands s x ≡ false
  none_between t x h g = stands_one x (go (is_one_of x (candidates_of s)) refl)
    where
      go : (b : Bool) → is_one_of x (candidates_of s) ≡ b → b ≡ false
      go true e = absurd (omega (arith, (nearest-least t (candidates_of s)).least x e h))
      go false e = refl

  between : (t n : ℕ) → t < n → n ≤ end → ((x : ℕ) → t < x → x < n → stands s x ≡ false) → plain_seconds s t ≡ plain_seconds s (n - 1)
  unfolding plain_seconds
  between t n h g q =
      let d : end - 1 - t ≡ (n - 1 - t) + (end - 1 - (n - 1)) = omega arith in
      let e : t + (n - 1 - t) ≡ n - 1 = omega arith in
      rw d (rw e at (seconds_quiet (stands s) (n - 1 - t) t (end - 1 - (n - 1)) (λ x a b. q x a (omega arith))))

  -- so nothing stands before the next candidate
  pub seconds_next : (t : ℕ) → plain_seconds s t ≡ plain_seconds s (nearest t (candidates_of s) - 1)
  seconds_next t = go (nearest t (candidates_of s)) (nearest-least t (candidates_of s)) (none_between t)
    where
      go : (n : ℕ) → Least t end (candidates_of s) n → ((x : ℕ) → t < x → x < n → stands s x ≡ false) → plain_seconds s t ≡ plain_seconds s (n - 1)
      go n l q =
          elim (dec_lt t n) [
            | yes h ↦ between t n h l.within q
            | no h ↦ ⊎_elim (λ e. seconds_over t (omega arith) ∙ sym (seconds_over (n - 1) (omega arith))) (λ k. absurd (omega arith)) l.found
          ]

  pub next-later : (t : ℕ) → t < end → t < nearest t (candidates_of s)
  next-later t h = ⊎_elim (λ e. omega arith) (λ k. k.0) (nearest-least t (candidates_of s)).found

  pub next-within : (t : ℕ) → nearest t (candidates_of s) ≤ end
  next-within t = (nearest-least t (candidates_of s)).within

  pub next_past : (t : ℕ) → 0 < nearest t (candidates_of s)
  next_past t = ⊎_elim (λ e. omega arith) (λ k. omega arith) (nearest-least t (candidates_of s)).found

  -- LOOKING: nothing stands after t and before the candidate n
  pub record Looking (t n : ℕ) : Type 0 where
    pub past : 0 < n
    pub within : n ≤ end
    pub one : n < end → is_one_of n (candidates_of s) ≡ true
    pub left : plain_seconds s t ≡ plain_seconds s (n - 1)

  one_found : (t n : ℕ) → n ≡ nearest t (candidates_of s) → n < end → is_one_of n (candidates_of s) ≡ true
  one_found t n e h = rw e (⊎_elim (λ q. absurd (omega arith)) (λ k. k.1) (nearest-least t (candidates_of s)).found)

  pub looking_start : (t n : ℕ) → n ≡ nearest t (candidates_of s) → Looking t n
  looking_start t n e =
      record { past = rw e (next_past t); within = rw e (next-within t); one = one_found t n e; left = rw e (seconds_next t) }

  module _ (t n : ℕ) (so_far : Looking t n) where
    pub looking_end : end ≤ n → n ≡ next_row s t
    unfolding next_row first_or
    looking_end h = rw (so_far.left, seconds_over (n - 1) (omega arith)) (omega (arith, so_far.within))

    pub looking_found : n < end → alike (values_at s n) (values_at s (n - 1)) ≡ false → n ≡ next_row s t
    unfolding next_row first_or stands
    looking_found h e = rw (so_far.left, seconds_at n so_far.past h, so_far.one h, e)

    still : n < end → alike (values_at s n) (values_at s (n - 1)) ≡ true → cond (stands s n) (n ∷ plain_seconds s n) (plain_seconds s n) ≡ plain_seconds s n
    unfolding stands
    still h e = rw (so_far.one h, e)

    pub looking_on : n < end → alike (values_at s n) (values_at s (n - 1)) ≡ true → (m : ℕ) → m ≡ nearest n (candidates_of s) → Looking t m
    looking_on h e m q =
        let k : plain_seconds s (n - 1) ≡ plain_seconds s n = seconds_at n so_far.past h ∙ still h e in
        record {
          past = rw q (next_past n);
          within = rw q (next-within n);
          one = one_found n m q;
          left = rw q (so_far.left ∙ k ∙ seconds_next n);
        }
