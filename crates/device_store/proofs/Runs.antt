-- Runs of stores, and lists given by a function of the index.
use Prim.Native.Nat.{ℕ, zero, suc, ◌+◌, ◌<◌, ◌≤◌}
use mathlib.Core.Path.{◌≡◌, refl, sym, ap, ◌∙◌}
use mathlib.Core.List.{List, [], ◌∷◌}
use native.Mathlib.Nat.{le_of_suc-le-suc, not-suc-le-zero}
use native.Mathlib.Decide.{dec_lt}
use native.Mathlib.Omega.{arith}
use lib.ListN.{length, get_or, set, length-set, get_or-append}
use lib.Seq.{sets, get_or-set_same, get_or-set_other, set_comm, get_or_at, ext_get_or}
use Rattle.device_store.specs.Zones.{up_to}
pub use Rattle.device_store.specs.Counts.{length-up_to}

module _ {A : Type 0} where
  -- what a run of stores leaves before it, after it, in it
  pub sets-before : (vs l : List A) (i k : ℕ) (d : A) → k < i → get_or (sets l i vs) k d ≡ get_or l k d
  sets-before [] l i k d h = refl
  sets-before (a ∷ vs) l i k d h = sets-before vs (set l i a) (suc i) k d (omega arith) ∙ get_or-set_other l i k a d (λ e. omega arith)

  pub sets-after : (vs l : List A) (i k : ℕ) (d : A) → i + length vs ≤ k → get_or (sets l i vs) k d ≡ get_or l k d
  sets-after [] l i k d h = refl
  sets-after (a ∷ vs) l i k d h = sets-after vs (set l i a) (suc i) k d (omega arith) ∙ get_or-set_other l i k a d (λ e. omega arith)

  pub sets-in : (vs l : List A) (i k m : ℕ) (d : A) → m ≡ i + k → k < length vs → i + length vs ≤ length l → get_or (sets l i vs) m d ≡ get_or vs k d
  sets-in [] l i k m d e h b = absurd (not-suc-le-zero h)
  sets-in (a ∷ vs) l i zero m d e h b = let p : m ≡ i = omega arith in rw p (sets-before vs (set l i a) (suc i) i d (omega arith) ∙ get_or-set_same l i a d (omega arith))
  sets-in (a ∷ vs) l i (suc k) m d e h b = sets-in vs (set l i a) (suc i) k m d (omega arith) (le_of_suc-le-suc h) (rw length-set (omega arith))

  -- runs that lie apart commute
  set-sets : (vs l : List A) (i k : ℕ) (a : A) → i + length vs ≤ k → set (sets l i vs) k a ≡ sets (set l k a) i vs
  set-sets [] l i k a h = refl
  set-sets (b ∷ vs) l i k a h =
      set-sets vs (set l i b) (suc i) k a (omega arith)
      ∙ ap (λ (x : List A). sets x (suc i) vs) (set_comm l i k b a (λ e. omega arith))

  pub set-sets_before : (vs l : List A) (i k : ℕ) (a : A) → k < i → set (sets l i vs) k a ≡ sets (set l k a) i vs
  set-sets_before [] l i k a h = refl
  set-sets_before (b ∷ vs) l i k a h =
      set-sets_before vs (set l i b) (suc i) k a (omega arith)
      ∙ ap (λ (x : List A). sets x (suc i) vs) (set_comm l i k b a (λ e. omega arith))

  pub sets-sets : (us vs l : List A) (i j : ℕ) → i + length vs ≤ j → sets (sets l i vs) j us ≡ sets (sets l j us) i vs
  sets-sets [] vs l i j h = refl
  sets-sets (a ∷ us) vs l i j h =
      ap (λ (x : List A). sets x (suc j) us) (set-sets vs l i j a h) ∙ sets-sets us vs (set l j a) i (suc j) (omega arith)

  pub get_d-up_to : (f : ℕ → A) (n i : ℕ) (d : A) → i < n → get_or (up_to f n) i d ≡ f i
  unfolding up_to
  get_d-up_to f zero i d h = absurd (not-suc-le-zero h)
  get_d-up_to f (suc n) i d h =
      elim (dec_lt i n) [
        | yes k ↦ get_or-append (up_to f n) (f n ∷ []) d i (rw (length-up_to f n) k) ∙ get_d-up_to f n i d k
        | no k ↦ let e : n ≡ i = omega arith in get_or_at (up_to f n) (f n) [] d i (length-up_to f n ∙ e) ∙ ap f e
      ]

  pub up_to-list : (f : ℕ → A) (n : ℕ) (l : List A) (d : A) → length l ≡ n → ((q : ℕ) → q < n → f q ≡ get_or l q d) → up_to f n ≡ l
  up_to-list f n l d e same =
      ext_get_or d (up_to f n) l (length-up_to f n ∙ sym e)
      (λ q h. let k : q < n = rw (length-up_to f n) at h in get_d-up_to f n q d k ∙ same q k)

  pub up_to-cong : (f g : ℕ → A) (n : ℕ) → ((q : ℕ) → q < n → f q ≡ g q) → up_to f n ≡ up_to g n
  unfolding up_to
  up_to-cong f g zero same = refl
  up_to-cong f g (suc n) same = rw (up_to-cong f g n (λ q h. same q (omega arith)), same n (omega arith))
