-- A row once it is filled: what is shown of the numbers that stand for claims, or of the failsafe limits, behind the control state.
use Prim.Native.Nat.{ℕ, zero, suc, ◌+◌, ◌-◌, ◌<◌, ◌≤◌}
use mathlib.Core.Bool.{Bool, true, false, cond, ◌&&◌}
use mathlib.Core.Path.{◌≡◌, refl, sym, ap, ◌∙◌}
use mathlib.Core.List.{List, [], ◌∷◌}
use native.Mathlib.Omega.{arith}
use native.Mathlib.Decide.{dec_lt}
use native.Mathlib.Numerals.{add-one}
use borrow.Author.Tests.{lt-ltb, le-ltb, ltb-true, ltb-false}
use lib.Dec.{ltb}
use lib.IntN.{ℤ, pos}
use lib.ListN.{length, get_or, set, length-set}
use lib.Seq.{get_or-set_same, get_or-set_other}
use Rattle.refusals.specs.States.{FAILSAFE}
use Rattle.device_store.specs.Quantities.{helds, is_limit, is_setpoint, direction_of}
use Rattle.device_store.specs.Sizes.{most}
use Rattle.device_store.specs.Zones.{up_to}
use Rattle.device_store.specs.declared.Settings.{Settings}
use Rattle.device_store.proofs.Runs.{up_to-list}
use Rattle.device_table.specs.States.{state_up}
use Rattle.device_table.specs.Leaves.{top_of, shown_below, number_in, shown_in, Filled}
use Rattle.device_store.specs.Smaller.{lesser}
use Rattle.device_store.proofs.Smaller.{lesser-swap}
use Rattle.device_claims.specs.Claim.{Claim}
use Rattle.device_claims.specs.Pass.{claim_number, LowestValuesMet}
use Rattle.device_claims.specs.declared.passes.LowestValues.{LowestValues}
use Rattle.device_claims.proofs.Places.{setpoint-place, no_setpoint, limit-at, current-at}
use Rattle.device_table.specs.Smallest.{smallest_with}
use Rattle.device_table.specs.Rows.{values_up, safe_number, shown_safe}

-- an array filled behind its first place, which is stored last
pub filled : (n : ℕ) (f : ℕ → ℤ) (v : List ℤ) (a : ℤ) → length v ≡ 1 + n → Filled f v n → set v 0 a ≡ a ∷ up_to f n
filled n f [] a e each = absurd (omega arith)
filled n f (b ∷ v) a e each =
    ap (λ (l : List ℤ). a ∷ l) (sym (up_to-list f n v (pos 0) (omega arith) (λ k h. sym (each k h) ∙ rw (add-one k))))

-- the values of the first row, once all are shown and the control state is stored
pub up_filled : (has o : ℕ) (low lead : List ℕ) (v : List ℤ) (st a b : ℤ) → length v ≡ 1 + helds → Filled (shown_in has low lead) v helds → st ≡ state_up o a b
    → a ≡ get_or v 1 (pos 0) → b ≡ get_or v 2 (pos 0) → set v 0 st ≡ values_up has o low lead
unfolding values_up
up_filled has o low lead v st a b e fl p q r = filled helds (shown_in has low lead) v st e fl ∙ rw (p, q, r, fl 0 (omega arith), fl 1 (omega arith))

-- the largest word is no smaller than a failsafe limit
pub low_safe : (safe : ℕ) (a : Claim) → safe ≤ most → lesser safe (claim_number a) ≡ smallest_with safe a
unfolding lesser claim_number smallest_with
low_safe safe a h = go a.there
  where
    go : (b : Bool) → cond (ltb safe (cond b a.value most)) safe (cond b a.value most) ≡ cond (b && ltb a.value safe) a.value safe
    go true = swapped
      where
        swapped : lesser safe a.value ≡ lesser a.value safe
        swapped = lesser-swap safe a.value
    go false =
        elim (dec_lt safe most) [
          | yes k ↦ rw (lt-ltb safe most k)
          | no k ↦ rw (le-ltb safe most (omega arith)) (omega arith)
        ]

-- the power limits stand first, and storing the first leaves the second
module _ (g : LowestValues) (f : ℕ → Claim) (m : LowestValuesMet g f) where
  pub first-met : get_or g.low 0 0 ≡ claim_number (f 0)
  first-met = rw (limit-at 0 (omega arith)) at (m.low 0 (omega arith))

  pub second_met : (v : ℕ) → get_or (set g.low 0 v) 1 0 ≡ claim_number (f 1)
  second_met v = get_or-set_other g.low 0 1 v 0 (λ e. omega arith) ∙ (rw (limit-at 1 (omega arith)) at (m.low 1 (omega arith)))

-- THE SECOND ROW's numbers: the limits with the failsafe's, the currents as they were met, no setpoint
module _ (s : Settings) (g : LowestValues) (f : ℕ → Claim) (m : LowestValuesMet g f) (a b : ℕ) (ea : a ≡ smallest_with (get_or s.failsafe 0 0) (f 0))
    (eb : b ≡ smallest_with (get_or s.failsafe 1 0) (f 1)) where
  abbrev safe_lowest_values : List ℕ
  safe_lowest_values = set (set g.low 0 a) 1 b

  safe_limit : (q : ℕ) → q < 2 → get_or safe_lowest_values q 0 ≡ smallest_with (get_or s.failsafe q 0) (f q)
  safe_limit zero h = get_or-set_other (set g.low 0 a) 1 0 b 0 (λ e. omega arith) ∙ get_or-set_same g.low 0 a 0 (omega (arith, m.size)) ∙ ea
  safe_limit (suc zero) h = get_or-set_same (set g.low 0 a) 1 b 0 (rw length-set (omega (arith, m.size))) ∙ eb
  safe_limit (suc (suc q)) h = absurd (omega arith)

  safe_current : (q : ℕ) → 4 ≤ q → q < helds → get_or safe_lowest_values (q - 2) 0 ≡ claim_number (f q)
  safe_current q l h =
      get_or-set_other (set g.low 0 a) 1 (q - 2) b 0 (λ e. omega arith)
      ∙ get_or-set_other g.low 0 (q - 2) a 0 (λ e. omega arith)
      ∙ rw (current-at q l) at (m.low (q - 2) (omega arith))

  pub safe-number : (q : ℕ) → q < helds → number_in safe_lowest_values (most ∷ most ∷ []) q ≡ safe_number s f q
  unfolding number_in safe_number
  safe-number q h = go (is_limit q) (is_setpoint q) refl refl
    where
      go : (l p : Bool) → is_limit q ≡ l → is_setpoint q ≡ p
          → cond l (get_or safe_lowest_values q 0) (cond p (get_or (most ∷ most ∷ []) (q - 2) 0) (get_or safe_lowest_values (q - 2) 0))
          ≡ cond l (smallest_with (get_or s.failsafe q 0) (f q)) (cond p most (claim_number (f q)))
      go true p e d = safe_limit q (ltb-true q 2 e)
      go false true e d = two (q - 2) (let k : (2 ≤ q) × (q < 4) = setpoint-place q d in omega arith)
        where
          two : (n : ℕ) → n < 2 → get_or (most ∷ most ∷ []) n 0 ≡ most
          two zero k = refl
          two (suc zero) k = refl
          two (suc (suc n)) k = absurd (omega arith)
      go false false e d = safe_current q (no_setpoint q d (ltb-false q 2 e)) h

  -- the values of the second row, once all are shown and the control state is stored
  pub safe_filled : (v : List ℤ) → length v ≡ 1 + helds → Filled (shown_in s.directions safe_lowest_values (most ∷ most ∷ [])) v helds
      → set v 0 (pos FAILSAFE) ≡ pos FAILSAFE ∷ up_to (shown_safe s f) helds
  unfolding shown_in shown_safe
  safe_filled v e fl =
      filled helds (shown_safe s f) v (pos FAILSAFE) e (λ k h. fl k h ∙ ap (shown_below (top_of s.directions (direction_of k))) (safe-number k h))
