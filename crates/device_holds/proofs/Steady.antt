-- Between two expiries nothing moves: what holds changes at no second but the due ones.
use Rattle.std.specs.Prelude.{None, Some}
use Prim.Native.Nat.{ℕ, zero, suc, ◌+◌, ◌*◌, ◌<◌, ◌≤◌}
use mathlib.Core.Bool.{Bool, true, false, cond, not, ◌&&◌}
use mathlib.Core.Path.{◌≡◌, refl, ap}
use mathlib.Core.List.Memᴰ
use mathlib.Core.List.{List, [], ◌∷◌, ◌++◌, foldl, Memᴰ}
use native.Mathlib.Decide.{ℕ_discrete}
use native.Mathlib.Omega.{arith}
use lib.Dec.{ltb}
use lib.IntN.{ℤ, pos}
use lib.ListN.{length, get_or, length-append}
use borrow.Author.Tests.{ltb-true, ltb-false}
use Rattle.device_store.specs.Quantities.{helds, lowest_values, leading_setpoints, is_limit, is_setpoint, low_at, lead_at}
use Rattle.device_store.specs.Sizes.{slots}
use Rattle.device_store.specs.Zones.{up_to, id_of, rank_of, held_of, is_joined, any_joined, any_up}
use Rattle.device_store.specs.Words.{zones_of, since_of, settings_of}
use Rattle.device_holds.specs.Holds.{Claim, Situation, situation_of, no_claim, claim_of, better, winner, amount_of, in_failsafe, smallest_with, failsafe_value, value_at, state_at, shown, values_at}
use Rattle.device_holds.specs.Dues.{zone_dues, held_dues, low_dues, lead_dues, dues}
use Rattle.wire_messages.specs.Options.{Amount}
use Rattle.device_store.specs.declared.Zone.{Zone}
use Rattle.device_store.proofs.Runs.{length-up_to, up_to-cong}
use Rattle.device_store.proofs.Lens.{zones_length}
use Rattle.device_claims.proofs.Places.{setpoint-no_limit, low_of, lead_of}

-- nothing is due at a second
abbrev pub Idle : ℕ → List ℕ → Type 0
Idle t l = Memᴰ t l → ⊥

up_to-has : (f : ℕ → ℕ) (n q : ℕ) → q < n → Memᴰ (f q) (up_to f n)
unfolding up_to
up_to-has f zero q h = absurd (omega arith)
up_to-has f (suc n) q h =
    elim (ℕ_discrete q n) [
      | yes e ↦ Memᴰ.append_right (up_to f n) (Memᴰ.head (ap f e))
      | no e ↦ Memᴰ.append_left (f n ∷ []) (up_to-has f n q (omega arith))
    ]

-- a test against an end answers the same a second later, unless that second is the end
test_steady : (t n : ℕ) → (suc t ≡ n → ⊥) → ltb (suc t) n ≡ ltb t n
test_steady t n h = go (ltb (suc t) n) refl (ltb t n) refl
  where
    go : (b : Bool) → ltb (suc t) n ≡ b → (c : Bool) → ltb t n ≡ c → b ≡ c
    go true p true q = refl
    go true p false q = absurd (omega (arith, ltb-true, ltb-false))
    go false p true q = absurd (h (omega (arith, ltb-true, ltb-false)))
    go false p false q = refl

-- of n quantities of a kind, whose ends count
module _ (t : ℕ) (at : ℕ → ℕ) (n k : ℕ) (known : k < n) where
  claim_steady : (x : Zone) → Idle (suc t) (zone_dues at n x) → claim_of (suc t) (at k) x ≡ claim_of t (at k) x
  unfolding claim_of zone_dues
  claim_steady x idle = go (is_joined x) idle
    where
      held : Bool → Bool → Claim
      held b c = cond (b && c) (record { there = true; value = (held_of x (at k)).value; rank = rank_of x; id = id_of x }) no_claim

      go : (b : Bool) → Idle (suc t) (cond b (up_to (λ j. (held_of x (at j)).until) n) []) → held b (ltb (suc t) (held_of x (at k)).until) ≡ held b (ltb t (held_of x (at k)).until)
      go false h = refl
      go true h = ap (held true) (test_steady t (held_of x (at k)).until (λ e. h (Memᴰ.cast e (up_to-has (λ j. (held_of x (at j)).until) n k known))))

  fold_steady : (zs : List Zone) → Idle (suc t) (held_dues at n zs) → (a : Claim)
      → foldl (λ a x. better (at k) a (claim_of (suc t) (at k) x)) a zs ≡ foldl (λ a x. better (at k) a (claim_of t (at k) x)) a zs
  unfolding held_dues
  fold_steady [] idle a = refl
  fold_steady (x ∷ zs) idle a =
      rw (claim_steady x (λ m. idle (Memᴰ.append_left (held_dues at n zs) m))) (fold_steady zs (λ m. idle (Memᴰ.append_right (zone_dues at n x) m)) (better (at k) a (claim_of t (at k) x)))

  winner-steady : (zs : List Zone) → Idle (suc t) (held_dues at n zs) → winner (suc t) (at k) zs ≡ winner t (at k) zs
  unfolding winner
  winner-steady zs idle = fold_steady zs idle no_claim

module _ (t q : ℕ) (zs : List Zone) where
  low_steady : q < helds → is_setpoint q ≡ false → Idle (suc t) (low_dues zs) → winner (suc t) q zs ≡ winner t q zs
  low_steady h e idle = let p : (k : ℕ) × (k < lowest_values) × (low_at k ≡ q) = low_of q h e in rw p.2 at (winner-steady t low_at lowest_values p.0 p.1 zs idle)

  lead_steady : is_setpoint q ≡ true → Idle (suc t) (lead_dues zs) → winner (suc t) q zs ≡ winner t q zs
  lead_steady e idle = let p : (k : ℕ) × (k < leading_setpoints) × (lead_at k ≡ q) = lead_of q e in rw p.2 at (winner-steady t lead_at leading_setpoints p.0 p.1 zs idle)

  both_steady : q < helds → Idle (suc t) (low_dues zs ++ lead_dues zs) → winner (suc t) q zs ≡ winner t q zs
  both_steady h idle = go (is_setpoint q) refl
    where
      go : (b : Bool) → is_setpoint q ≡ b → winner (suc t) q zs ≡ winner t q zs
      go true e = lead_steady e (λ m. idle (Memᴰ.append_right (low_dues zs) m))
      go false e = low_steady h e (λ m. idle (Memᴰ.append_left (lead_dues zs) m))

module _ (s : Situation) (t : ℕ) (idle : Idle (suc t) (dues s)) where
  failsafe_steady : in_failsafe s (suc t) ≡ in_failsafe s t
  unfolding in_failsafe dues
  failsafe_steady = go (any_up s.zones) (any_joined s.zones) idle
    where
      go : (u j : Bool) → Idle (suc t) (cond u (low_dues s.zones ++ lead_dues s.zones) (cond j ((s.since + s.settings.duration) ∷ low_dues s.zones) []))
          → (not u && (j && ltb (suc t) (s.since + s.settings.duration))) ≡ (not u && (j && ltb t (s.since + s.settings.duration)))
      go true j h = refl
      go false false h = refl
      go false true h = test_steady t (s.since + s.settings.duration) (λ e. h (Memᴰ.head e))

  -- the second row goes by the limits' ends: setpoints are absent
  safe_steady : (q : ℕ) → q < helds → Idle (suc t) (low_dues s.zones) → failsafe_value s (suc t) q ≡ failsafe_value s t q
  unfolding failsafe_value
  safe_steady q k h = go (is_setpoint q) refl
    where
      safe : Bool → Bool → Claim → Amount
      safe l b c = cond l (Some (smallest_with (get_or s.settings.failsafe q 0) c)) (cond b None (amount_of c))

      go : (b : Bool) → is_setpoint q ≡ b → safe (is_limit q) b (winner (suc t) q s.zones) ≡ safe (is_limit q) b (winner t q s.zones)
      go true e = rw (setpoint-no_limit q e)
      go false e = ap (safe (is_limit q) false) (low_steady t q s.zones k e h)

  value_steady : (q : ℕ) → q < helds → value_at s (suc t) q ≡ value_at s t q
  unfolding value_at dues in_failsafe
  value_steady q k = rw (failsafe_steady, go (any_up s.zones) (any_joined s.zones) idle)
    where
      safe : Bool
      safe = ltb t (s.since + s.settings.duration)

      go : (u j : Bool) → Idle (suc t) (cond u (low_dues s.zones ++ lead_dues s.zones) (cond j ((s.since + s.settings.duration) ∷ low_dues s.zones) []))
          → cond u (amount_of (winner (suc t) q s.zones)) (cond (not u && (j && safe)) (failsafe_value s (suc t) q) None)
          ≡ cond u (amount_of (winner t q s.zones)) (cond (not u && (j && safe)) (failsafe_value s t q) None)
      go true j h = ap amount_of (both_steady t q s.zones k h)
      go false true h = ap (λ (a : Amount). cond safe a None) (safe_steady q k (λ m. h (Memᴰ.tail m)))
      go false false h = refl

  state_steady : state_at s (suc t) ≡ state_at s t
  unfolding state_at
  state_steady = rw (failsafe_steady, value_steady 0 (omega arith), value_steady 1 (omega arith))

  -- values are steady between expiries
  pub values-steady : values_at s (suc t) ≡ values_at s t
  unfolding values_at
  values-steady =
      rw state_steady (ap (λ (l : List ℤ). pos (state_at s t) ∷ l) (up_to-cong (λ q. shown (value_at s (suc t) q)) (λ q. shown (value_at s t q)) helds (λ q k. ap shown (value_steady q k))))

-- AT MOST 80 OF THEM, and 65 with no link up, on every content of the words
module _ (at : ℕ → ℕ) (n : ℕ) where
  zone_few : (x : Zone) → length (zone_dues at n x) ≤ n
  unfolding zone_dues
  zone_few x = go (is_joined x)
    where
      go : (b : Bool) → length (cond b (up_to (λ k. (held_of x (at k)).until) n) []) ≤ n
      go true = omega (arith, length-up_to (λ k. (held_of x (at k)).until) n)
      go false = omega arith

held-few : (zs : List Zone) → (length (low_dues zs) ≤ length zs * lowest_values) × (length (lead_dues zs) ≤ length zs * leading_setpoints)
unfolding held_dues
held-few [] = (omega arith, omega arith)
held-few (x ∷ zs) = (rw length-append (omega (arith, zone_few low_at lowest_values x, (held-few zs).0)), rw length-append (omega (arith, zone_few lead_at leading_setpoints x, (held-few zs).1)))

-- the end of the failsafe, and the limits'
pub dues-few_down : (ws : List ℕ) → any_up (zones_of ws) ≡ false → length (dues (situation_of ws)) ≤ 1 + slots * lowest_values
unfolding dues
dues-few_down ws e = rw e (go (any_joined (zones_of ws)))
  where
    go : (j : Bool) → length (cond j ((since_of ws + (settings_of ws).duration) ∷ low_dues (zones_of ws)) []) ≤ 1 + slots * lowest_values
    go true = omega (arith, (held-few (zones_of ws)).0, zones_length ws)
    go false = omega arith

pub dues-few : (ws : List ℕ) → length (dues (situation_of ws)) ≤ slots * helds
unfolding dues
dues-few ws = go (any_up (zones_of ws)) (any_joined (zones_of ws))
  where
    go : (u j : Bool) → length (cond u (low_dues (zones_of ws) ++ lead_dues (zones_of ws)) (cond j ((since_of ws + (settings_of ws).duration) ∷ low_dues (zones_of ws)) [])) ≤ slots * helds
    go true j = rw length-append (omega (arith, (held-few (zones_of ws)).0, (held-few (zones_of ws)).1, zones_length ws))
    go false true = omega (arith, (held-few (zones_of ws)).0, zones_length ws)
    go false false = omega arith
