-- The table of links, row by row: what is shown of the numbers that stand for the winning claims, or of the failsafe limits.
use Rattle.std.specs.Prelude.{None, Some}
use Prim.Native.Nat.{ℕ, ◌+◌, ◌-◌, ◌<◌, ◌≤◌}
use mathlib.Core.Bool.{Bool, true, false, cond, not, ◌&&◌, ◌||◌}
use mathlib.Core.Path.{◌≡◌, refl, sym, ◌∙◌}
use mathlib.Core.List.{List, ◌∷◌, foldl, foldl-append}
use native.Mathlib.Omega.{arith}
use borrow.Author.Tests.{le-ltb, ltb-true, ltb-false}
use Rattle.device_store.proofs.Runs.{up_to-cong}
use lib.Dec.{ltb, eqb}
use lib.IntN.{ℤ, pos, negsuc}
use lib.ListN.{get_or}
use lib.Signed.{non_neg}
use Rattle.refusals.specs.States.{AUTONOMOUS, CONTROLLED, LIMITED, OVERRIDE}
use Rattle.wire_messages.specs.Options.{Amount}
use Rattle.device_store.specs.Quantities.{helds, is_limit, is_setpoint, direction_of, supports}
use Rattle.device_store.specs.Sizes.{most, end, value_end}
use Rattle.device_store.specs.Zones.{up_to, any_joined, any_up}
use Rattle.device_holds.specs.Links.{link_row}
use Rattle.device_holds.specs.Holds.{Claim, winner, amount_of, Situation, in_failsafe, smallest_with, failsafe_value, value_at, present, state_at, shown, values_at}
use Rattle.device_holds.specs.Dues.{low_dues, lead_dues, dues, nearer, nearest}
use Rattle.device_claims.specs.Pass.{claim_number, LowestValuesMet, LeadingSetpointsMet}
use Rattle.device_table.specs.Rows.{values_up, values_none, safe_number, shown_safe, values_down}
use Rattle.device_table.specs.States.{state_up, state_down}
use Rattle.device_table.specs.Leaves.{top_of, shown_below, number_in, shown_in}
use Rattle.device_claims.specs.declared.passes.LowestValues.{LowestValues}
use Rattle.device_claims.specs.declared.passes.LeadingSetpoints.{LeadingSetpoints}
use Rattle.device_claims.proofs.Places.{setpoint-place, no_setpoint, limit-at, current-at}

below_shown : (has d v : ℕ) → shown_below (top_of has d) v ≡ cond (supports has d) (shown (Some v)) (negsuc 0)
unfolding shown_below top_of shown
below_shown has d v = go (supports has d)
  where
    go : (b : Bool) → cond (ltb v (cond b value_end 0)) (pos v) (negsuc 0) ≡ cond b (cond (ltb v value_end) (pos v) (negsuc 0)) (negsuc 0)
    go true = refl
    go false = rw (le-ltb v 0 (omega arith))

-- the largest word shows as absent
number-shown : (a : Claim) → shown (Some (claim_number a)) ≡ shown (amount_of a)
unfolding shown claim_number
number-shown a = go a.there
  where
    go : (b : Bool) → shown (Some (cond b a.value most)) ≡ shown (cond b (Some a.value) None)
    go true = refl
    go false = refl

-- what is present is what is not shown as absent
present-shown : (a : Amount) → non_neg (shown a) ≡ present a
unfolding shown present
present-shown None = refl
present-shown (Some v) = go (ltb v value_end)
  where
    go : (b : Bool) → non_neg (cond b (pos v) (negsuc 0)) ≡ b
    go true = refl
    go false = refl

module _ (s : Situation) (t : ℕ) where
  abbrev has : ℕ
  has = s.settings.directions

  -- SOME ZONE UP
  module _ (up : any_up s.zones ≡ true) where
    value_up : (q n : ℕ) → n ≡ claim_number (winner t q s.zones) → shown_below (top_of has (direction_of q)) n ≡ shown (value_at s t q)
    unfolding value_at shown
    value_up q n e = below_shown has (direction_of q) n ∙ rw (up, e) (go (supports has (direction_of q)))
      where
        go : (b : Bool) → cond b (shown (Some (claim_number (winner t q s.zones)))) (negsuc 0) ≡ shown (cond b (amount_of (winner t q s.zones)) None)
        go true = number-shown (winner t q s.zones)
        go false = refl

    state-up : state_up s.override (shown (value_at s t 0)) (shown (value_at s t 1)) ≡ pos (state_at s t)
    unfolding state_up state_at in_failsafe
    state-up = rw (up, present-shown (value_at s t 0), present-shown (value_at s t 1)) (go (not (eqb s.override 0)) (present (value_at s t 0) || present (value_at s t 1)))
      where
        go : (a b : Bool) → cond a (pos OVERRIDE) (cond b (pos LIMITED) (pos CONTROLLED)) ≡ pos (cond a OVERRIDE (cond b LIMITED CONTROLLED))
        go true b = refl
        go false true = refl
        go false false = refl

    module _ (a : LowestValues) (b : LeadingSetpoints) (m : LowestValuesMet a (λ q. winner t q s.zones)) (n : LeadingSetpointsMet b (λ q. winner t q s.zones)) where
      number_up : (q : ℕ) → q < helds → number_in a.low b.lead q ≡ claim_number (winner t q s.zones)
      unfolding number_in
      number_up q h = go (is_limit q) (is_setpoint q) refl refl
        where
          go : (l p : Bool) → is_limit q ≡ l → is_setpoint q ≡ p
              → cond l (get_or a.low q 0) (cond p (get_or b.lead (q - 2) 0) (get_or a.low (q - 2) 0)) ≡ claim_number (winner t q s.zones)
          go true p e d = let k : q < 2 = ltb-true q 2 e in rw (limit-at q k) at (m.low q (omega arith))
          go false true e d =
              let k : (2 ≤ q) × (q < 4) = setpoint-place q d in
              let back : 2 + (q - 2) ≡ q = omega arith in
              rw back at (n.lead (q - 2) (omega arith)).number
          go false false e d =
              let k : 4 ≤ q = no_setpoint q d (ltb-false q 2 e) in
              rw (current-at q k) at (m.low (q - 2) (omega arith))

      shown-up : (q : ℕ) → q < helds → shown_in has a.low b.lead q ≡ shown (value_at s t q)
      unfolding shown_in
      shown-up q h = value_up q (number_in a.low b.lead q) (number_up q h)

      pub values-up : values_up has s.override a.low b.lead ≡ values_at s t
      unfolding values_up values_at
      values-up = rw (up_to-cong (shown_in has a.low b.lead) (λ q. shown (value_at s t q)) helds shown-up, shown-up 0 (omega arith), shown-up 1 (omega arith), state-up)

  -- NO ZONE UP
  module _ (down : any_up s.zones ≡ false) where
    abbrev safe : Bool
    safe = any_joined s.zones && ltb t (s.since + s.settings.duration)

    failsafe_is : in_failsafe s t ≡ safe
    unfolding in_failsafe
    failsafe_is = rw down

    abbrev best : ℕ → Claim
    best q = winner t q s.zones

    safe_shown : (q : ℕ) → safe ≡ true → shown_safe s.settings best q ≡ shown (value_at s t q)
    unfolding shown_safe safe_number value_at failsafe_value shown
    safe_shown q e = below_shown has (direction_of q) (safe_number s.settings best q) ∙ rw (down, failsafe_is, e) (go (supports has (direction_of q)) (is_limit q) (is_setpoint q))
      where
        limit : ℕ
        limit = smallest_with (get_or s.settings.failsafe q 0) (best q)

        go : (b l p : Bool) → cond b (shown (Some (cond l limit (cond p most (claim_number (best q)))))) (negsuc 0) ≡ shown (cond b (cond l (Some limit) (cond p None (amount_of (best q)))) None)
        go true true p = refl
        go true false true = refl
        go true false false = number-shown (best q)
        go false l p = refl

    absent-down : (q : ℕ) → safe ≡ false → value_at s t q ≡ None
    unfolding value_at
    absent-down q e = rw (down, failsafe_is, e) (go (supports has (direction_of q)))
      where
        go : (a : Bool) → ◌≡◌ {A = Amount} (cond a None None) None
        go true = refl
        go false = refl

    absent-shown : (q : ℕ) → safe ≡ false → shown (value_at s t q) ≡ negsuc 0
    unfolding shown
    absent-shown q e = rw (absent-down q e)

    values-safe : safe ≡ true → values_down s.settings s.override true best ≡ values_at s t
    unfolding values_down values_at state_at
    values-safe e = rw (failsafe_is ∙ e, up_to-cong (shown_safe s.settings best) (λ q. shown (value_at s t q)) helds (λ q h. safe_shown q e))

    values-open : safe ≡ false → values_none s.override ≡ values_at s t
    unfolding values_none values_at state_at state_down present
    values-open e =
        rw (failsafe_is ∙ e, down, absent-down 0 e, absent-down 1 e, up_to-cong (λ q. negsuc 0) (λ q. shown (value_at s t q)) helds (λ q h. sym (absent-shown q e)))
        (go (not (eqb s.override 0)))
      where
        vs : List ℤ
        vs = up_to (λ q. shown (value_at s t q)) helds

        go : (a : Bool) → cond a (pos OVERRIDE) (pos AUTONOMOUS) ∷ vs ≡ pos (cond a OVERRIDE AUTONOMOUS) ∷ vs
        go true = refl
        go false = refl

    pub values-down : any_joined s.zones ≡ true
        → values_down s.settings s.override (ltb t (s.since + s.settings.duration)) (λ q. winner t q s.zones) ≡ values_at s t
    unfolding values_down
    values-down j = go (ltb t (s.since + s.settings.duration)) refl
      where
        go : (b : Bool) → ltb t (s.since + s.settings.duration) ≡ b → values_down s.settings s.override b (λ q. winner t q s.zones) ≡ values_at s t
        go true e = values-safe (rw (j, e))
        go false e = values-open (rw (j, e))

    pub values-none : any_joined s.zones ≡ false → values_none s.override ≡ values_at s t
    values-none j = values-open (rw j)

-- THE ROW, AND WHAT IS DUE IN IT
module _ (s : Situation) where
  pub up_of : link_row s.zones ≡ 2 → any_up s.zones ≡ true
  unfolding link_row
  up_of = go (any_up s.zones) (any_joined s.zones)
    where
      go : (a b : Bool) → ◌≡◌ {A = ℕ} (cond a 2 (cond b 1 0)) 2 → a ≡ true
      go true b e = refl
      go false true e = absurd (omega arith)
      go false false e = absurd (omega arith)

  pub down_of : link_row s.zones ≡ 1 → (any_up s.zones ≡ false) × (any_joined s.zones ≡ true)
  unfolding link_row
  down_of = go (any_up s.zones) (any_joined s.zones)
    where
      go : (a b : Bool) → ◌≡◌ {A = ℕ} (cond a 2 (cond b 1 0)) 1 → (a ≡ false) × (b ≡ true)
      go true b e = absurd (omega arith)
      go false true e = (refl, refl)
      go false false e = absurd (omega arith)

  pub none_of : (link_row s.zones ≡ 2 → ⊥) → (link_row s.zones ≡ 1 → ⊥) → (any_up s.zones ≡ false) × (any_joined s.zones ≡ false)
  unfolding link_row
  none_of = go (any_up s.zones) (any_joined s.zones)
    where
      go : (a b : Bool) → (◌≡◌ {A = ℕ} (cond a 2 (cond b 1 0)) 2 → ⊥) → (◌≡◌ {A = ℕ} (cond a 2 (cond b 1 0)) 1 → ⊥) → (a ≡ false) × (b ≡ false)
      go true b n m = absurd (n refl)
      go false true n m = absurd (m refl)
      go false false n m = (refl, refl)

  -- the row 0, and what is neither 0 nor 2
  pub none-at : link_row s.zones ≡ 0 → (any_up s.zones ≡ false) × (any_joined s.zones ≡ false)
  none-at e = none_of (λ n. omega arith) (λ n. omega arith)

  pub down_else : (link_row s.zones ≡ 0 → ⊥) → (link_row s.zones ≡ 2 → ⊥) → (any_up s.zones ≡ false) × (any_joined s.zones ≡ true)
  unfolding link_row
  down_else = go (any_up s.zones) (any_joined s.zones)
    where
      go : (a b : Bool) → (◌≡◌ {A = ℕ} (cond a 2 (cond b 1 0)) 0 → ⊥) → (◌≡◌ {A = ℕ} (cond a 2 (cond b 1 0)) 2 → ⊥) → (a ≡ false) × (b ≡ true)
      go true b n m = absurd (m refl)
      go false true n m = (refl, refl)
      go false false n m = absurd (n refl)

  pub due_up : (t : ℕ) → any_up s.zones ≡ true → foldl (nearer t) (foldl (nearer t) end (low_dues s.zones)) (lead_dues s.zones) ≡ nearest t (dues s)
  unfolding dues nearest
  due_up t e = rw e (sym (foldl-append (nearer t) end (low_dues s.zones) (lead_dues s.zones)))

  pub due_down : (t : ℕ) → any_up s.zones ≡ false → any_joined s.zones ≡ true
      → foldl (nearer t) (nearer t end (s.since + s.settings.duration)) (low_dues s.zones) ≡ nearest t (dues s)
  unfolding dues nearest
  due_down t e j = rw (e, j)

  pub due_none : (t : ℕ) → any_up s.zones ≡ false → any_joined s.zones ≡ false → end ≡ nearest t (dues s)
  unfolding dues nearest
  due_none t e j = rw (e, j)
