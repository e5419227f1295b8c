-- The next due second: the least past a given one, and fewer are left past it.
use Prim.Native.Nat.{ℕ, suc, ◌<◌, ◌≤◌}
use mathlib.Core.Bool.{Bool, true, false, cond, ◌&&◌}
use mathlib.Core.Path.{◌≡◌, refl, ◌∙◌}
use mathlib.Core.Logic.{◌⊎◌, inl, inr, ⊎_elim}
use mathlib.Core.List.Memᴰ
use mathlib.Core.List.{List, [], ◌∷◌, foldl, Memᴰ}
use native.Mathlib.Omega.{arith}
use lib.Dec.{ltb}
use lib.ListN.{length}
use borrow.Author.Tests.{ltb-true, ltb-false}
use Rattle.device_store.specs.Sizes.{end}
use Rattle.device_holds.specs.Dues.{nearer, nearest}

-- x is r, or the least of the list past cur and before r
pub record Least (cur r : ℕ) (ds : List ℕ) (x : ℕ) : Type 0 where
  pub within : x ≤ r
  pub least : (e : ℕ) → Memᴰ e ds → cur < e → x ≤ e
  pub found : (x ≡ r) ⊎ ((cur < x) × Memᴰ x ds)

-- one number more in front, where v is the nearer of r and it
least_more : (cur r d v x : ℕ) (ds : List ℕ) → v ≤ r → (cur < d → v ≤ d) → (v ≡ r) ⊎ ((cur < d) × (v ≡ d)) → Least cur v ds x → Least cur r (d ∷ ds) x
least_more cur r d v x ds a b c l =
    record {
      within = omega (arith, l.within);
      least = λ e m h. ⊎_elim (λ q. omega (arith, l.within, b (omega arith))) (λ k. l.least e k h) (Memᴰ.cases_cons m);
      found = ⊎_elim (λ q. ⊎_elim (λ p. inl (q ∙ p)) (λ p. inr (omega arith, Memᴰ.head (q ∙ p.1))) c) (λ k. inr (k.0, Memᴰ.tail k.1)) l.found;
    }

fold_least : (cur r : ℕ) (ds : List ℕ) → Least cur r ds (foldl (nearer cur) r ds)
unfolding nearer
fold_least cur r [] = record { within = omega arith; least = λ e m. absurd (Memᴰ.not-nil m); found = inl refl }
fold_least cur r (d ∷ ds) = go (ltb cur d) refl (ltb d r) refl (λ v. fold_least cur v ds)
  where
    go : (b : Bool) → ltb cur d ≡ b → (c : Bool) → ltb d r ≡ c → ((v : ℕ) → Least cur v ds (foldl (nearer cur) v ds))
        → Least cur r (d ∷ ds) (foldl (nearer cur) (cond (b && c) d r) ds)
    go true p true q rest = least_more cur r d d _ ds (omega (arith, ltb-true)) (λ h. omega arith) (inr (omega (arith, ltb-true), refl)) (rest d)
    go true p false q rest = least_more cur r d r _ ds (omega arith) (λ h. omega (arith, ltb-false)) (inl refl) (rest r)
    go false p c q rest = least_more cur r d r _ ds (omega arith) (λ h. absurd (omega (arith, ltb-false))) (inl refl) (rest r)

pub nearest-is : (cur : ℕ) (ds : List ℕ) → Least cur end ds (nearest cur ds)
unfolding nearest
nearest-is cur ds = fold_least cur end ds

pub nearest-later : (cur : ℕ) (ds : List ℕ) → cur < end → cur < nearest cur ds
nearest-later cur ds h = ⊎_elim (λ e. omega arith) (λ k. k.0) (nearest-is cur ds).found

-- how many of the list lie past cur
abbrev pub above : ℕ → List ℕ → ℕ
above cur [] = 0
above cur (d ∷ ds) = cond (ltb cur d) (suc (above cur ds)) (above cur ds)

pub above_all : (cur : ℕ) (ds : List ℕ) → above cur ds ≤ length ds
above_all cur [] = omega arith
above_all cur (d ∷ ds) = go (ltb cur d) (above_all cur ds)
  where
    go : (b : Bool) → above cur ds ≤ length ds → cond b (suc (above cur ds)) (above cur ds) ≤ suc (length ds)
    go true h = omega arith
    go false h = omega arith

-- fewer lie past n, and fewer still where n itself is one
module _ (cur n : ℕ) (later : cur < n) where
  above_fewer : (ds : List ℕ) → above n ds ≤ above cur ds
  above_fewer [] = omega arith
  above_fewer (d ∷ ds) = go (ltb n d) refl (ltb cur d) refl (above_fewer ds)
    where
      go : (b : Bool) → ltb n d ≡ b → (c : Bool) → ltb cur d ≡ c → above n ds ≤ above cur ds → cond b (suc (above n ds)) (above n ds) ≤ cond c (suc (above cur ds)) (above cur ds)
      go true p true q h = omega arith
      go true p false q h = absurd (omega (arith, ltb-true, ltb-false))
      go false p true q h = omega arith
      go false p false q h = h

  pub above_less : (ds : List ℕ) → Memᴰ n ds → above n ds < above cur ds
  above_less [] m = absurd (Memᴰ.not-nil m)
  above_less (d ∷ ds) m = go (ltb n d) refl (ltb cur d) refl (above_fewer ds) (⊎_elim inl (λ k. inr (above_less ds k)) (Memᴰ.cases_cons m))
    where
      go : (b : Bool) → ltb n d ≡ b → (c : Bool) → ltb cur d ≡ c → above n ds ≤ above cur ds → (n ≡ d) ⊎ (above n ds < above cur ds)
          → cond b (suc (above n ds)) (above n ds) < cond c (suc (above cur ds)) (above cur ds)
      go true p c q h (inl e) = absurd (omega (arith, ltb-true))
      go true p true q h (inr k) = omega arith
      go true p false q h (inr k) = absurd (omega (arith, ltb-true, ltb-false))
      go false p true q h e = omega arith
      go false p false q h (inl e) = absurd (omega (arith, ltb-false))
      go false p false q h (inr k) = k
