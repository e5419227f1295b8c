-- Who holds a value goes by which zones are joined, and not by where they stand.
use Prim.Native.Nat.{ℕ, ◌<◌, ◌≤◌}
use mathlib.Core.Path.{◌≡◌, refl, sym, ap, ◌∙◌, subst}
use mathlib.Core.Bool.{Bool, true, false}
use mathlib.Core.List.{List, Memᴰ}
use native.Mathlib.Omega.{arith}
use lib.IntN.{ℤ, pos, negsuc}
use lib.ListN.{length, get_or}
use Rattle.wire_messages.specs.Options.{Amount}
use Rattle.device_store.specs.declared.Zone.{Zone}
use Rattle.device_store.specs.Zones.{id_of, free_zone, is_joined}
use Rattle.device_holds.specs.Holds.{Situation, value_at, shown}
use Rattle.device_holders.specs.Holders.{holds_value, best_placed, named, holder_of, holder_at}
use Rattle.device_holders.proofs.Best.{best_placed-is}
use Rattle.device_holders.proofs.Holding.{holds_joined}
use Rattle.demands.proofs.Lists.{never, get_d_mem, mem-get_d}
use Rattle.demands.proofs.Claims.{Within, OneId, Alike, value_same}

-- THE BEST PLACE
module _ (p : Zone → Bool) (joined : (x : Zone) → p x ≡ true → is_joined x ≡ true) where
  -- the best-placed of one list is in the other, so the other's is no worse placed
  beaten : (l m : List Zone) → Within l m → is_joined (best_placed p l) ≡ true
      → Memᴰ (best_placed p l) l × (is_joined (best_placed p m) ≡ true) × ((best_placed p m).precedence ≤ (best_placed p l).precedence)
  beaten l m w e =
      let r = (best_placed-is p joined l).held e in
      let x : Zone = best_placed p l in
      let here : Memᴰ x l = subst (λ (y : Zone). Memᴰ y l) r.3 (get_d_mem l r.0 free_zone r.1) in
      let passes : p x ≡ true = ap p (sym r.3) ∙ r.2 in
      let k = mem-get_d m x free_zone (w.has x e here) in
      let there : p (get_or m k.0 free_zone) ≡ true = ap p k.2 ∙ passes in
      let no-worse = subst (λ (y : Zone). (best_placed p m).precedence ≤ y.precedence) k.2 ((best_placed-is p joined m).first k.0 k.1 there) in
      (here, stands (is_joined (best_placed p m)) refl k.0 k.1 there, no-worse)
    where
      stands : (b : Bool) → is_joined (best_placed p m) ≡ b → (i : ℕ) → i < length m → p (get_or m i free_zone) ≡ true → b ≡ true
      stands true f i h g = refl
      stands false f i h g = absurd ((best_placed-is p joined m).none f i h g)

  same_id : (x y : Zone) → x.precedence ≡ y.precedence → id_of x ≡ id_of y
  unfolding id_of
  same_id x y e = rw e

  -- what decides a holder: the zone, or that there is none
  best_placed-same : (l m : List Zone) → Within l m → Within m l → OneId l
      → (s : Situation) (q : ℕ) → named s q (best_placed p l) ≡ named s q (best_placed p m)
  unfolding OneId named
  best_placed-same l m there back one s q = go (is_joined (best_placed p l)) refl (is_joined (best_placed p m)) refl
    where
      go : (a : Bool) → is_joined (best_placed p l) ≡ a → (b : Bool) → is_joined (best_placed p m) ≡ b → named s q (best_placed p l) ≡ named s q (best_placed p m)
      go true e true f =
          let u = beaten l m there e in
          let w = beaten m l back f in
          let i : id_of (best_placed p l) ≡ id_of (best_placed p m) = same_id (best_placed p l) (best_placed p m) (omega (arith, u.2, w.2)) in
          ap (named s q) (one (best_placed p l) (best_placed p m) u.0 (back.has (best_placed p m) f w.0) e i)
      go true e false f = never (sym f ∙ (beaten l m there e).1)
      go false e true f = never (sym e ∙ (beaten m l back f).1)
      go false e false f = rw (e, f)

-- THE HOLDER
module _ (a b : Situation) (k : Alike a b) (t q : ℕ) where
  named-same : (x : Zone) → named a q x ≡ named b q x
  unfolding named
  named-same x = rw (k.since, k.settings)

  pub holder_same : holder_at a t q ≡ holder_at b t q
  unfolding holder_at
  holder_same = ap (λ (v : Amount). holder_of a t q (shown v)) (value_same a b k t q) ∙ go (shown (value_at b t q))
    where
      go : (v : ℤ) → holder_of a t q v ≡ holder_of b t q v
      go (pos v) =
          unfold holder_of in
          best_placed-same (holds_value t q v) (holds_joined t q v) a.zones b.zones k.there k.back k.one a q ∙ named-same (best_placed (holds_value t q v) b.zones)
      go (negsuc n) = unfold holder_of in refl
