-- What is shown, by its sign.
use Prim.Native.Nat.{ℕ, ◌+◌, ◌^◌, ◌<◌}
use mathlib.Core.Bool.{true, false}
use mathlib.Core.Path.{◌≡◌, refl, ap, ◌∙◌}
use mathlib.Core.List.{List, ◌∷◌}
use native.Mathlib.Numerals.{add-one}
use native.Mathlib.Omega.{arith}
use borrow.Author.Tests.{ltb-true}
use lib.Dec.{T}
use lib.IntN.{ℤ, pos, negsuc, nat_abs}
use lib.ListN.{get_or}
use lib.Signed.{lt_z, non_neg, mag}
use mir.Facts.{to_z-of_z}
use mir.Syntax.{w64}
use mir.Val.{to_z, of_z}
use Rattle.device_store.specs.Sizes.{helds}
use Rattle.device_store.specs.Zones.{up_to}
use Rattle.device_store.proofs.Runs.{get_d-up_to}
use Rattle.device_store.proofs.Tests.{never}
use Rattle.device_holds.specs.Holds.{Situation, value_at, state_at, shown, values_at}
use Rattle.device_holders.specs.Holders.{holds_value, best_placed, named, holder_of, holder_at}
use Rattle.device_holders.specs.declared.Holder.{Holder}

module _ (s : Situation) (t q : ℕ) where
  pub absent-holder : (v : ℤ) → lt_z v (pos 0) ≡ true → record { who = 0; until = 0 } ≡ holder_of s t q v
  unfolding holder_of
  absent-holder (pos n) e = absurd (omega (arith, ltb-true n 0 e))
  absent-holder (negsuc n) e = refl

  pub shown-holder : (v : ℤ) → lt_z v (pos 0) ≡ false → named s q (best_placed (holds_value t q (nat_abs v)) s.zones) ≡ holder_of s t q v
  unfolding holder_of
  shown-holder (pos n) e = refl
  shown-holder (negsuc n) e = absurd (never e)

  -- behind the control state, the value of quantity q
  holder-at : q < helds → holder_of s t q (get_or (values_at s t) (q + 1) (pos 0)) ≡ holder_at s t q
  unfolding holder_at values_at
  holder-at h = ap (holder_of s t q) (behind q ∙ get_d-up_to (λ q. shown (value_at s t q)) helds q (pos 0) h)
    where
      behind : (k : ℕ) → get_or (pos (state_at s t) ∷ up_to (λ q. shown (value_at s t q)) helds) (k + 1) (pos 0) ≡ get_or (up_to (λ q. shown (value_at s t q)) helds) k (pos 0)
      behind k = rw (add-one k)

  -- what an array has there, as the bits that a signed local holds
  pub holder_turn : (vs : List ℤ) (m : ℕ) → vs ≡ values_at s t → q < helds → m ≡ q + 1 → mag (get_or vs m (pos 0)) < 2 ^ 63 → (r : Holder)
      → r ≡ holder_of s t q (to_z w64 (of_z w64 (get_or vs m (pos 0)))) → r ≡ holder_at s t q
  holder_turn vs m e h at f r k =
      k ∙ ap (holder_of s t q) (to_z-of_z {w = w64} (record { sfits = f })) ∙ (λ i. holder_of s t q (get_or (e i) (at i) (pos 0))) ∙ holder-at h

pub natural : (v : ℤ) → lt_z v (pos 0) ≡ false → T (non_neg v)
natural (pos n) e = tt
natural (negsuc n) e = absurd (never e)
