-- Currents never move the control state: it goes by links, the override and the power limits.
use Prim.Native.Nat.{ℕ, suc}
use mathlib.Core.Bool.{Bool, true}
use mathlib.Core.Path.{◌≡◌, refl}
use mathlib.Core.List.{List, [], ◌∷◌, foldl}
use native.Mathlib.Omega.{arith}
use lib.ListN.{length, get_or}
use Rattle.device_store.specs.Quantities.{is_limit}
use Rattle.device_store.specs.Zones.{id_of, rank_of, free_zone, any, is_joined, is_up, any_joined, any_up}
use Rattle.device_holds.specs.Holds.{Claim, no_claim, claim_of, better, winner, Situation, in_failsafe, failsafe_value, value_at, state_at}
use Rattle.device_holds.specs.Table.{ButForCurrents, StateAlone}
use Rattle.device_store.specs.declared.Zone.{Zone}

-- two lists of zones, of one length and alike in f at each slot
abbrev Alike : {A : Type 0} → (Zone → A) → List Zone → List Zone → Type 0
Alike f zs ys = (i : ℕ) → f (get_or zs i free_zone) ≡ f (get_or ys i free_zone)

any-alike : (p : Zone → Bool) (zs ys : List Zone) → length zs ≡ length ys → Alike p zs ys → any p zs ≡ any p ys
unfolding any
any-alike p [] [] e h = refl
any-alike p [] (y ∷ ys) e h = absurd (omega arith)
any-alike p (x ∷ zs) [] e h = absurd (omega arith)
any-alike p (x ∷ zs) (y ∷ ys) e h = rw (h 0, any-alike p zs ys (omega arith) (λ i. h (suc i)))

fold_alike : (t q : ℕ) (zs ys : List Zone) (a : Claim) → length zs ≡ length ys → Alike (claim_of t q) zs ys
    → foldl (λ a x. better q a (claim_of t q x)) a zs ≡ foldl (λ a x. better q a (claim_of t q x)) a ys
fold_alike t q [] [] a e h = refl
fold_alike t q [] (y ∷ ys) a e h = absurd (omega arith)
fold_alike t q (x ∷ zs) [] a e h = absurd (omega arith)
fold_alike t q (x ∷ zs) (y ∷ ys) a e h = rw (h 0) (fold_alike t q zs ys (better q a (claim_of t q y)) (omega arith) (λ i. h (suc i)))

module _ (a b : Situation) (same : ButForCurrents a b) (t : ℕ) where
  joined-alike : Alike is_joined a.zones b.zones
  unfolding is_joined id_of
  joined-alike i = rw (same.precedences i)

  up_alike : Alike is_up a.zones b.zones
  unfolding is_up
  up_alike i = rw (joined-alike i, same.links i)

  claim_alike : (q : ℕ) → is_limit q ≡ true → Alike (claim_of t q) a.zones b.zones
  unfolding claim_of is_joined id_of rank_of
  claim_alike q l i = rw (same.precedences i, same.limits i q l)

  winner-alike : (q : ℕ) → is_limit q ≡ true → winner t q a.zones ≡ winner t q b.zones
  unfolding winner
  winner-alike q l = fold_alike t q a.zones b.zones no_claim same.slots (claim_alike q l)

  some-up_alike : any_up a.zones ≡ any_up b.zones
  unfolding any_up
  some-up_alike = any-alike is_up a.zones b.zones same.slots up_alike

  some-joined_alike : any_joined a.zones ≡ any_joined b.zones
  unfolding any_joined
  some-joined_alike = any-alike is_joined a.zones b.zones same.slots joined-alike

  failsafe_alike : in_failsafe a t ≡ in_failsafe b t
  unfolding in_failsafe
  failsafe_alike = rw (some-up_alike, some-joined_alike, same.settings, same.since)

  limit-alike : (q : ℕ) → is_limit q ≡ true → value_at a t q ≡ value_at b t q
  unfolding value_at failsafe_value
  limit-alike q l = rw (failsafe_alike, some-up_alike, same.settings, l, winner-alike q l)

  state_alike : state_at a t ≡ state_at b t
  unfolding state_at
  state_alike = rw (limit-alike 0 refl, limit-alike 1 refl, failsafe_alike, some-up_alike, same.override)

pub state_alone : StateAlone
state_alone a b same t = state_alike a b same t
