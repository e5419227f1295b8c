-- Lists by their elements: what `first` finds, and members by index.
use mathlib.Core.Path.{◌≡◌, refl, sym}
use mathlib.Core.Logic.{⊎_elim}
use mathlib.Core.Bool.{Bool, true, false, cond, ◌||◌}
use mathlib.Core.List.Memᴰ
use mathlib.Core.List.{List, [], ◌∷◌, Memᴰ}
use Prim.Native.Nat.{ℕ, zero, suc, ◌≤◌, ◌<◌}
use native.Mathlib.Omega.{arith}
use lib.ListN.{length, get_or}
use Rattle.device_store.specs.Zones.{first, any}

pub never : {X : Type 0} → ◌≡◌ {A = Bool} false true → X
never e = absurd (let w : ◌≡◌ {A = ℕ} 0 1 = cc in omega arith)

module _ {A : Type 0} where
  -- the first that passes the test stands at or before any other that does
  pub first-least : (p : A → Bool) (l : List A) (i : ℕ) (d : A) → i < length l → p (get_or l i d) ≡ true → first p l ≤ i
  unfolding first
  first-least p [] i d h e = absurd (omega arith)
  first-least p (x ∷ l) zero d h e = rw e (omega arith)
  first-least p (x ∷ l) (suc i) d h e = go (p x) (first-least p l i d (omega arith) e)
    where
      go : (b : Bool) → first p l ≤ i → cond b 0 (suc (first p l)) ≤ suc i
      go true ih = omega arith
      go false ih = omega arith

  -- members
  pub get_d_mem : (l : List A) (i : ℕ) (d : A) → i < length l → Memᴰ (get_or l i d) l
  get_d_mem [] i d h = absurd (omega arith)
  get_d_mem (x ∷ l) zero d h = Memᴰ.head refl
  get_d_mem (x ∷ l) (suc i) d h = Memᴰ.tail (get_d_mem l i d (omega arith))

  pub mem-get_d : (l : List A) (x d : A) → Memᴰ x l → (i : ℕ) × (i < length l) × (get_or l i d ≡ x)
  mem-get_d [] x d m = absurd (Memᴰ.not-nil m)
  mem-get_d (y ∷ l) x d m =
      ⊎_elim (λ e. (0, omega arith, sym e)) (λ k. let r = mem-get_d l x d k in (suc r.0, omega (arith, r.1), r.2)) (Memᴰ.cases_cons m)

  -- some member passes the test
  pub any-mem : (p : A → Bool) (l : List A) → any p l ≡ true → (x : A) × Memᴰ x l × (p x ≡ true)
  unfolding any
  any-mem p [] e = absurd (let w : ◌≡◌ {A = ℕ} 0 1 = cc in omega arith)
  any-mem p (x ∷ l) e = go (p x) refl e (any-mem p l)
    where
      go : (b : Bool) → p x ≡ b → (b || any p l) ≡ true → (any p l ≡ true → (y : A) × Memᴰ y l × (p y ≡ true)) → (y : A) × Memᴰ y (x ∷ l) × (p y ≡ true)
      go true h e ih = (x, Memᴰ.head refl, h)
      go false h e ih = let r = ih e in (r.0, Memᴰ.tail r.1, r.2)

  pub mem-any : (p : A → Bool) (l : List A) (x : A) → Memᴰ x l → p x ≡ true → any p l ≡ true
  unfolding any
  mem-any p [] x m e = absurd (Memᴰ.not-nil m)
  mem-any p (y ∷ l) x m e = ⊎_elim (λ q. rw (← q, e)) (λ k. go (p y) (mem-any p l x k e)) (Memᴰ.cases_cons m)
    where
      go : (b : Bool) → any p l ≡ true → (b || any p l) ≡ true
      go true h = refl
      go false h = h
