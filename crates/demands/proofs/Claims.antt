-- The winner of a quantity goes by which zones are joined, and not by where they stand: so do all values.
use Rattle.std.specs.Prelude.{None, Some}
use mathlib.Core.Path.{◌≡◌, refl, sym, ap, ◌∙◌, subst}
use mathlib.Core.Bool.{Bool, true, false, cond, ◌&&◌}
use mathlib.Core.List.{List, ◌∷◌, Memᴰ}
use Prim.Native.Nat.{ℕ, ◌<◌}
use native.Mathlib.Omega.{arith}
use lib.IntN.{pos}
use lib.ListN.{length, get_or}
use borrow.Author.Tests.{ltb-false}
use lib.Dec.{ltb}
use Rattle.wire_messages.specs.Options.{Amount}
use Rattle.device_store.specs.Quantities.{is_setpoint}
use Rattle.device_store.specs.declared.Zone.{Zone}
use Rattle.device_store.specs.Sizes.{helds}
use Rattle.device_store.specs.Zones.{id_of, any, free_zone, is_joined, is_up, any_joined, any_up}
use Rattle.device_holds.specs.Holds.{Claim, claim_of, goes_before, winner, amount_of, Situation, in_failsafe, smallest_with, failsafe_value, value_at, state_at, shown, values_at}
use Rattle.device_holds.specs.Table.{Unexpired}
use Rattle.device_holds.proofs.Before.{not_earlier}
use Rattle.device_holds.proofs.Winner.{claim_there, wins}
use Rattle.device_store.proofs.Runs.{up_to-cong}
use Rattle.demands.proofs.Lists.{never, get_d_mem, mem-get_d, any-mem, mem-any}

-- every joined zone of one list is in the other; no two joined zones of a list have one id
pub record Within (l m : List Zone) : Type 0 where
  pub has : (x : Zone) → is_joined x ≡ true → Memᴰ x l → Memᴰ x m

unfoldable pub OneId : List Zone → Type 0
OneId l = (x y : Zone) → Memᴰ x l → Memᴰ y l → is_joined x ≡ true → id_of x ≡ id_of y → x ≡ y

-- THE WINNER
-- a winner that stands is some joined zone's claim
pub standing : (t q : ℕ) (l : List Zone) → (winner t q l).there ≡ true → (x : Zone) × Memᴰ x l × Unexpired t q x × (claim_of t q x ≡ winner t q l)
standing t q l e = let r = (wins t q l).held e in (get_or l r.0 free_zone, get_d_mem l r.0 free_zone r.1, r.2, r.3)

-- the winner of one list is in the other, so it is beaten by the other's winner
beaten : (t q : ℕ) (l m : List Zone) → Within l m → (winner t q l).there ≡ true → ((winner t q m).there ≡ true) × (goes_before q (winner t q l) (winner t q m) ≡ false)
beaten t q l m w e =
    let r = standing t q l e in
    let k = mem-get_d m r.0 free_zone (w.has r.0 r.2.0 r.1) in
    let u : Unexpired t q (get_or m k.0 free_zone) = subst (Unexpired t q) (sym k.2) r.2 in
    let b = (wins t q m).first k.0 k.1 u in
    (stands (winner t q m).there refl k.0 k.1 u, subst (λ (c : Claim). goes_before q c (winner t q m) ≡ false) (ap (claim_of t q) k.2 ∙ r.3) b)
  where
    stands : (b : Bool) → (winner t q m).there ≡ b → (i : ℕ) → i < length m → Unexpired t q (get_or m i free_zone) → b ≡ true
    stands true p i h u = refl
    stands false p i h u = absurd ((wins t q m).none.0 p i h u)

equal_limits : (q : ℕ) (a b : Claim) → is_setpoint q ≡ false → goes_before q a b ≡ false → goes_before q b a ≡ false → a.value ≡ b.value
unfolding goes_before
equal_limits q a b e p r = let x = ltb-false a.value b.value (rw e at p) in let y = ltb-false b.value a.value (rw e at r) in omega arith

equal_ids : (q : ℕ) (a b : Claim) → is_setpoint q ≡ true → goes_before q a b ≡ false → goes_before q b a ≡ false → a.id ≡ b.id
unfolding goes_before
equal_ids q a b e p r =
    let x = not_earlier a.rank a.id b.rank b.id (rw e at p) in
    let y = not_earlier b.rank b.id a.rank a.id (rw e at r) in
    let k : a.rank ≡ b.rank = omega (arith, x.0, y.0) in
    omega (arith, x.1 k, y.1 (sym k))

pub winner-same : (t q : ℕ) (l m : List Zone) → Within l m → Within m l → OneId l → amount_of (winner t q l) ≡ amount_of (winner t q m)
unfolding OneId
winner-same t q l m there back one = go (winner t q l).there refl (winner t q m).there refl
  where
    c : Claim
    c = winner t q l

    d : Claim
    d = winner t q m

    claim_id : (x : Zone) → Unexpired t q x → id_of x ≡ (claim_of t q x).id
    claim_id x u = sym (ap (λ (k : Claim). k.id) (claim_there t q x u))

    both : c.there ≡ true → d.there ≡ true → (b : Bool) → is_setpoint q ≡ b → c.value ≡ d.value
    both p r false e = equal_limits q c d e (beaten t q l m there p).1 (beaten t q m l back r).1
    both p r true e =
        let x = standing t q l p in
        let y = standing t q m r in
        let i : c.id ≡ d.id = equal_ids q c d e (beaten t q l m there p).1 (beaten t q m l back r).1 in
        let ids : id_of x.0 ≡ id_of y.0 = claim_id x.0 x.2 ∙ ap (λ (k : Claim). k.id) x.3 ∙ i ∙ ap (λ (k : Claim). k.id) (sym y.3) ∙ sym (claim_id y.0 y.2) in
        let same : x.0 ≡ y.0 = one x.0 y.0 x.1 (back.has y.0 y.2.0 y.1) x.2.0 ids in
        ap (λ (k : Claim). k.value) (sym x.3 ∙ ap (claim_of t q) same ∙ y.3)

    go : (a : Bool) → c.there ≡ a → (b : Bool) → d.there ≡ b → cond a (Some c.value) None ≡ cond b (Some d.value) None
    go true p true r = ap Some (both p r (is_setpoint q) refl)
    go true p false r = never (sym r ∙ (beaten t q l m there p).0)
    go false p true r = never (sym p ∙ (beaten t q m l back r).0)
    go false p false r = refl

-- THE VALUES
any_same : (p : Zone → Bool) → ((x : Zone) → p x ≡ true → is_joined x ≡ true) → (l m : List Zone) → Within l m → Within m l → any p l ≡ any p m
any_same p j l m there back = go (any p l) refl (any p m) refl
  where
    way : (l m : List Zone) → Within l m → any p l ≡ true → any p m ≡ true
    way l m w e = let r = any-mem p l e in mem-any p m r.0 (w.has r.0 (j r.0 r.2) r.1) r.2

    go : (a : Bool) → any p l ≡ a → (b : Bool) → any p m ≡ b → a ≡ b
    go true x true y = refl
    go false x false y = refl
    go true x false y = sym (way l m there x) ∙ y
    go false x true y = sym x ∙ way m l back y

up_joined : (x : Zone) → is_up x ≡ true → is_joined x ≡ true
unfolding is_up
up_joined x = go (is_joined x)
  where
    go : (b : Bool) → (b && x.up) ≡ true → b ≡ true
    go true e = refl
    go false e = e

pub any_up-same : (l m : List Zone) → Within l m → Within m l → any_up l ≡ any_up m
unfolding any_up
any_up-same l m there back = any_same is_up up_joined l m there back

pub any_joined-same : (l m : List Zone) → Within l m → Within m l → any_joined l ≡ any_joined m
unfolding any_joined
any_joined-same l m there back = any_same is_joined (λ x e. e) l m there back

-- the smallest with a failsafe limit goes by the claim's amount
smallest_of : ℕ → Amount → ℕ
smallest_of n None = n
smallest_of n (Some v) = cond (ltb v n) v n

smallest_by : (n : ℕ) (c : Claim) → smallest_with n c ≡ smallest_of n (amount_of c)
unfolding smallest_with smallest_of
smallest_by n c = go c.there
  where
    go : (b : Bool) → cond (b && ltb c.value n) c.value n ≡ smallest_of n (cond b (Some c.value) None)
    go true = refl
    go false = refl

-- what holds at a second goes by the settings, the joined zones, since when no link is up, and the override
pub record Alike (a b : Situation) : Type 0 where
  pub there : Within a.zones b.zones
  pub back : Within b.zones a.zones
  pub one : OneId a.zones
  pub settings : a.settings ≡ b.settings
  pub since : a.since ≡ b.since
  pub override : a.override ≡ b.override

module _ (a b : Situation) (k : Alike a b) where
  failsafe_same : (t : ℕ) → in_failsafe a t ≡ in_failsafe b t
  unfolding in_failsafe
  failsafe_same t =
      let u = any_up-same a.zones b.zones k.there k.back in
      let j = any_joined-same a.zones b.zones k.there k.back in
      rw (u, j, k.since, k.settings)

  limit-same : (t q n : ℕ) → smallest_with n (winner t q a.zones) ≡ smallest_with n (winner t q b.zones)
  limit-same t q n =
      let w = winner-same t q a.zones b.zones k.there k.back k.one in
      smallest_by n (winner t q a.zones) ∙ ap (smallest_of n) w ∙ sym (smallest_by n (winner t q b.zones))

  pub value_same : (t q : ℕ) → value_at a t q ≡ value_at b t q
  unfolding value_at failsafe_value
  value_same t q =
      let u = any_up-same a.zones b.zones k.there k.back in
      let w = winner-same t q a.zones b.zones k.there k.back k.one in
      let f = failsafe_same t in
      rw (u, f, w, k.settings, limit-same t q (get_or b.settings.failsafe q 0))

  state_same : (t : ℕ) → state_at a t ≡ state_at b t
  unfolding state_at
  state_same t =
      let u = any_up-same a.zones b.zones k.there k.back in
      rw (u, failsafe_same t, value_same t 0, value_same t 1, k.override)

  pub values_same : (t : ℕ) → values_at a t ≡ values_at b t
  unfolding values_at
  values_same t =
      let l = up_to-cong (λ q. shown (value_at a t q)) (λ q. shown (value_at b t q)) helds (λ q h. ap shown (value_same t q)) in
      λ i. pos (state_same t i) ∷ l i
