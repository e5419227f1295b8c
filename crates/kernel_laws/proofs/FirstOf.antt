-- A call is refused with n exactly when n's test is the first to hold, and accepted exactly when none holds: over every list of tests.
use Prim.Native.Nat.{ℕ, zero, suc, ◌<◌}
use mathlib.Core.Bool.{Bool, true, false, ◌||◌}
use mathlib.Core.Logic.{◌≢◌}
use mathlib.Core.Path.{◌≡◌, refl, sym, ap}
use mathlib.Core.List.{List, [], ◌∷◌}
use native.Mathlib.Nat.{le_of_suc-le-suc, not-suc-le-zero}
use native.Mathlib.Omega.{arith}
use borrow.Author.Tests.{eq-eqb}
use lib.Dec.{eqb}
use lib.ListN.{get_or}
use Rattle.device_store.specs.Zones.{any}
use Rattle.refusals.specs.Refusals.{first_of}
use Rattle.device_calls.specs.Refusals.{FirstAt, NoneHolds, Numbered}

apart : false ≡ true → ⊥
apart e = let z : ◌≡◌ {A = ℕ} 0 1 = cc in omega arith

refused-first : (l : List (Bool × ℕ)) (n : ℕ) → n ≢ 0 → first_of l ≡ n → FirstAt l n
unfolding first_of
refused-first [] n z e = absurd (z (sym e))
refused-first ((true, k) ∷ l) n z e = record { at = 0; passes = rw e; none_before = λ j h. absurd (not-suc-le-zero h) }
refused-first ((false, k) ∷ l) n z e = later (refused-first l n z e)
  where
    later : FirstAt l n → FirstAt ((false, k) ∷ l) n
    later f = record { at = suc f.at; passes = f.passes; none_before = before }
      where
        before : (j : ℕ) → j < suc f.at → (get_or ((false, k) ∷ l) j (false, 0)).0 ≡ false
        before zero h = refl
        before (suc j) h = f.none_before j (le_of_suc-le-suc h)

first-at : (l : List (Bool × ℕ)) (n i : ℕ) → get_or l i (false, 0) ≡ (true, n) → ((j : ℕ) → j < i → (get_or l j (false, 0)).0 ≡ false) → first_of l ≡ n
unfolding first_of
first-at [] n i e b = absurd (apart (ap (λ (x : Bool × ℕ). x.0) e))
first-at (x ∷ l) n zero e b = rw e
first-at (x ∷ l) n (suc i) e b = rw (b 0 (omega arith)) (first-at l n i e (λ j h. b (suc j) (omega arith)))

pub refused-exactly : (l : List (Bool × ℕ)) (n : ℕ) → n ≢ 0 → (first_of l ≡ n → FirstAt l n) × (FirstAt l n → first_of l ≡ n)
refused-exactly l n z = (refused-first l n z, λ f. first-at l n f.at f.passes f.none_before)

none-holds : (l : List (Bool × ℕ)) → Numbered l → first_of l ≡ 0 → NoneHolds l
unfolding first_of any
none-holds [] m e j = refl
none-holds ((true, k) ∷ l) m e j = absurd (apart (sym (rw (eq-eqb k 0 e) at m)))
none-holds ((false, k) ∷ l) m e zero = refl
none-holds ((false, k) ∷ l) m e (suc j) = none-holds l (rest (eqb k 0) m) e j
  where
    rest : (b : Bool) → (b || any (λ x. eqb x.1 0) l) ≡ false → any (λ x. eqb x.1 0) l ≡ false
    rest true q = absurd (apart (sym q))
    rest false q = q

all_pass : (l : List (Bool × ℕ)) → NoneHolds l → first_of l ≡ 0
unfolding first_of
all_pass [] f = refl
all_pass (x ∷ l) f = rw (f 0) (all_pass l (λ j. f (suc j)))

pub accepted-exactly : (l : List (Bool × ℕ)) → Numbered l → (first_of l ≡ 0 → NoneHolds l) × (NoneHolds l → first_of l ≡ 0)
accepted-exactly l m = (none-holds l m, all_pass l)
