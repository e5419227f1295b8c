-- The winning claim, for every quantity: an unexpired one of a joined zone, and none goes before it.
use Prim.Native.Nat.{ℕ, zero, suc, ◌<◌}
use mathlib.Core.Bool.{Bool, true, false, cond, not, ◌&&◌}
use mathlib.Core.Logic.{◌⊎◌, inl, inr, ⊎_elim}
use mathlib.Core.Path.{◌≡◌, refl, sym, ap, ◌∙◌}
use mathlib.Core.List.{List, [], ◌∷◌, foldl}
use native.Mathlib.Nat.{le_of_suc-le-suc, not-suc-le-zero}
use native.Mathlib.Omega.{arith}
use borrow.Author.Tests.{lt-ltb, ltb-true}
use lib.Dec.{ltb}
use lib.ListN.{length, get_or}
use Rattle.device_store.specs.Zones.{id_of, rank_of, free_zone, is_joined, held_of}
use Rattle.device_holds.specs.Holds.{Claim, no_claim, claim_of, goes_before, better, winner}
use Rattle.device_holds.specs.Table.{Unexpired, Some, Each, Wins}
use Rattle.device_store.specs.declared.Zone.{Zone}
use Rattle.device_store.proofs.Tests.{never}
use Rattle.device_holds.proofs.Before.{before_self, before_asym, not-before_trans}

-- a claim is there exactly where the zone is joined and its value unexpired
module _ (t q : ℕ) (x : Zone) where
  pub claim_there : Unexpired t q x → claim_of t q x ≡ record { there = true; value = (held_of x q).value; rank = rank_of x; id = id_of x }
  unfolding claim_of
  claim_there u = rw (u.0, lt-ltb t (held_of x q).until u.1)

  pub there_claims : (claim_of t q x).there ≡ true → Unexpired t q x
  unfolding claim_of
  there_claims = go (is_joined x) (ltb t (held_of x q).until) refl refl
    where
      go : (a b : Bool) → is_joined x ≡ a → ltb t (held_of x q).until ≡ b
          → (cond (a && b) (record { there = true; value = (held_of x q).value; rank = rank_of x; id = id_of x }) no_claim).there ≡ true → Unexpired t q x
      go true true p r e = (p, ltb-true t (held_of x q).until r)
      go true false p r e = absurd (never (sym e))
      go false b p r e = absurd (never (sym e))

-- ONE CLAIM MORE
-- r is there, and y does not go before it
abbrev Stands : ℕ → Claim → Claim → Type 0
Stands q r y = (r.there ≡ true) × (goes_before q y r ≡ false)

module _ (q : ℕ) (a b : Claim) where
  better-keeps : (y : Claim) → Stands q a y → Stands q (better q a b) y
  unfolding better
  better-keeps y s = go b.there a.there (goes_before q a b) refl refl refl
    where
      go : (u w v : Bool) → b.there ≡ u → a.there ≡ w → goes_before q a b ≡ v → Stands q (cond (u && not (w && v)) b a) y
      go true true true e d f = s
      go true true false e d f = (e, not-before_trans q y a b s.1 f)
      go true false v e d f = absurd (never (sym s.0 ∙ d))
      go false w v e d f = s

  better-takes : b.there ≡ true → Stands q (better q a b) b
  unfolding better
  better-takes e = go b.there a.there (goes_before q a b) refl refl refl
    where
      go : (u w v : Bool) → b.there ≡ u → a.there ≡ w → goes_before q a b ≡ v → Stands q (cond (u && not (w && v)) b a) b
      go true true true d f g = (f, before_asym q a b g)
      go true true false d f g = (e, before_self q b)
      go true false v d f g = (e, before_self q b)
      go false w v d f g = absurd (never (sym e ∙ d))

  better-one : (better q a b ≡ a) ⊎ ((better q a b ≡ b) × (b.there ≡ true))
  unfolding better
  better-one = go b.there (not (a.there && goes_before q a b)) refl
    where
      go : (u v : Bool) → b.there ≡ u → (cond (u && v) b a ≡ a) ⊎ ((cond (u && v) b a ≡ b) × (b.there ≡ true))
      go true true e = inr (refl, e)
      go true false e = inl refl
      go false v e = inl refl

-- ALL ZONES
module _ (t q : ℕ) where
  abbrev step : Claim → Zone → Claim
  step a x = better q a (claim_of t q x)

  fold_keeps : (a y : Claim) (zs : List Zone) → Stands q a y → Stands q (foldl step a zs) y
  fold_keeps a y [] s = s
  fold_keeps a y (x ∷ zs) s = fold_keeps (step a x) y zs (better-keeps q a (claim_of t q x) y s)

  fold_takes : (a : Claim) (zs : List Zone) (i : ℕ) → i < length zs → Unexpired t q (get_or zs i free_zone) → Stands q (foldl step a zs) (claim_of t q (get_or zs i free_zone))
  fold_takes a [] i h u = absurd (not-suc-le-zero h)
  fold_takes a (x ∷ zs) zero h u = fold_keeps (step a x) (claim_of t q x) zs (better-takes q a (claim_of t q x) (ap (λ (c : Claim). c.there) (claim_there t q x u)))
  fold_takes a (x ∷ zs) (suc i) h u = fold_takes (step a x) zs i (le_of_suc-le-suc h) u

  fold_one : (a : Claim) (zs : List Zone) → (foldl step a zs ≡ a) ⊎ Some t q zs (λ x. claim_of t q x ≡ foldl step a zs)
  fold_one a [] = inl refl
  fold_one a (x ∷ zs) = ⊎_elim (λ e. here (better-one q a (claim_of t q x)) e) (λ s. inr (suc s.0, omega (arith, s.1), s.2, s.3)) (fold_one (step a x) zs)
    where
      here : (step a x ≡ a) ⊎ ((step a x ≡ claim_of t q x) × ((claim_of t q x).there ≡ true)) → foldl step (step a x) zs ≡ step a x
          → (foldl step (step a x) zs ≡ a) ⊎ Some t q (x ∷ zs) (λ y. claim_of t q y ≡ foldl step (step a x) zs)
      here (inl e) f = inl (f ∙ e)
      here (inr e) f = inr (0, omega arith, there_claims t q x e.1, sym (f ∙ e.0))

  module _ (zs : List Zone) where
    stands : (i : ℕ) → i < length zs → Unexpired t q (get_or zs i free_zone) → Stands q (winner t q zs) (claim_of t q (get_or zs i free_zone))
    unfolding winner
    stands = fold_takes no_claim zs

    winner-held : (winner t q zs).there ≡ true → Some t q zs (λ x. claim_of t q x ≡ winner t q zs)
    unfolding winner
    winner-held e = ⊎_elim (λ n. absurd (never (sym e ∙ ap (λ (c : Claim). c.there) n))) (λ s. s) (fold_one no_claim zs)

    winner-none : Each t q zs (λ x. ⊥) → (winner t q zs).there ≡ false
    winner-none f = go (winner t q zs).there refl
      where
        go : (b : Bool) → (winner t q zs).there ≡ b → b ≡ false
        go true e = let s : Some t q zs (λ x. claim_of t q x ≡ winner t q zs) = winner-held e in absurd (f s.0 s.1 s.2)
        go false e = refl

    pub wins : Wins t q zs
    wins =
        record {
          held = winner-held;
          first = λ i h u. (stands i h u).1;
          none = (λ e i h u. never (sym (stands i h u).0 ∙ e), winner-none);
        }
