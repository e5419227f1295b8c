-- Moving the clock leaves all that an ask and a plan go by but the second, and the rows say the values from each second on.
use Prim.Native.Nat.{ℕ, zero, suc, ◌+◌, ◌-◌, ◌≤◌, ◌<◌}
use mathlib.Core.Path.{◌≡◌, refl, sym, ap, ◌∙◌}
use mathlib.Core.Bool.{Bool, true, false, cond, ◌||◌}
use mathlib.Core.Logic.{ite}
use mathlib.Core.List.{List, ◌∷◌, Memᴰ, List-discrete}
use native.Mathlib.Omega.{arith}
use lib.Dec.{ltb, leb}
use lib.IntN.{ℤ, ℤ_discrete}
use lib.ListN.{length}
use lib.Seq.{set_out}
use borrow.Author.Tests.{le-leb, lt-leb, le-ltb, leb-true, leb-false, ltb-false}
use Rattle.refusals.specs.Refusals.{first_of}
use Rattle.device_store.specs.Sizes.{end, slots, words}
use Rattle.device_rules.specs.Rules.{late}
use Rattle.device_store.specs.Zones.{free_zone}
use Rattle.device_store.specs.Words.{clock_of, override_of, zones_of, head_change, applied, after}
use Rattle.device_store.proofs.Lens.{zones_length}
use Rattle.device_store.proofs.Effects.{applied-settings, applied-clock, applied-since, applied-override, applied-zones}
use Rattle.device_holds.specs.Holds.{situation_of, values_at}
use Rattle.device_calls.specs.Calls.{ask_answer, move_number, move_after}
use Rattle.plan.specs.Rows.{last, rows_of, plan}
use Rattle.plan.specs.Plan.{plan_of, rows_from}
use Rattle.plan.proofs.IsPlan.{past, plan-is}
use Rattle.demands.specs.Moving.{said_of, left_at, MovesAsPlanned}

module _ (f : ℕ → List ℤ) where
  abbrev same : (t : ℕ) → Dec (f (suc t) ≡ f t)
  same t = List-discrete ℤ_discrete (f (suc t)) (f t)

  -- before the first row all is as it is now, and every row is left
  early : (n now t : ℕ) (v : List ℤ) → t ≤ now → (said_of (rows_of f now n) v t ≡ v) × (left_at (rows_of f now n) t ≡ rows_of f now n)
  unfolding rows_of said_of left_at
  early zero now t v h = (refl, refl)
  early (suc n) now t v h = go (same now) (early n (suc now) t v (omega arith))
    where
      go : (d : Dec (f (suc now) ≡ f now)) → (said_of (rows_of f (suc now) n) v t ≡ v) × (left_at (rows_of f (suc now) n) t ≡ rows_of f (suc now) n)
          → (said_of (ite d (rows_of f (suc now) n) ((suc now, f (suc now)) ∷ rows_of f (suc now) n)) v t ≡ v)
          × (left_at (ite d (rows_of f (suc now) n) ((suc now, f (suc now)) ∷ rows_of f (suc now) n)) t ≡ ite d (rows_of f (suc now) n) ((suc now, f (suc now)) ∷ rows_of f (suc now) n))
      go (yes e) p = p
      go (no e) p = let z = lt-leb (suc now) t (omega arith) in (rw z, rw z)

  -- from now on the rows say each second's values, and the rows that are left are those of the seconds behind it
  abbrev Along : ℕ → ℕ → ℕ → List (ℕ × List ℤ) → Type 0
  Along n now t rs = (said_of rs (f now) t ≡ f t) × (left_at rs t ≡ rows_of f t (now + n - t))

  along : (n now t : ℕ) → now ≤ t → t ≤ now + n → Along n now t (rows_of f now n)
  unfolding rows_of said_of left_at
  along zero now t h g =
      let e : now ≡ t = omega arith in
      let z : now + 0 - t ≡ 0 = omega arith in
      (ap f e, rw z refl)
  along (suc n) now t h g = go (leb t now) refl (λ l. along n (suc now) t l (omega arith))
    where
      here : t ≤ now → Along (suc n) now t (rows_of f now (suc n))
      here l =
          let e : now ≡ t = omega arith in
          let z : now + suc n - t ≡ suc n = omega arith in
          let p = early (suc n) now t (f now) l in
          (p.0 ∙ ap f e, p.1 ∙ rw (z, e) refl)

      later : (d : Dec (f (suc now) ≡ f now)) → now < t → Along n (suc now) t (rows_of f (suc now) n)
          → Along (suc n) now t (ite d (rows_of f (suc now) n) ((suc now, f (suc now)) ∷ rows_of f (suc now) n))
      later (yes e) l p = let z : now + suc n - t ≡ suc now + n - t = omega arith in (rw (← e) p.0, rw z p.1)
      later (no e) l p =
          let z : now + suc n - t ≡ suc now + n - t = omega arith in
          let y = le-leb (suc now) t (omega arith) in
          (rw y p.0, rw (y, z) p.1)

      go : (b : Bool) → leb t now ≡ b → (now < t → Along n (suc now) t (rows_of f (suc now) n)) → Along (suc n) now t (rows_of f now (suc n))
      go true e behind = here (leb-true t now e)
      go false e behind = let l = leb-false t now e in later (same now) l (behind l)

-- a second to which the clock can be moved
module _ (ws : List ℕ) (t : ℕ) where
  pub can_move : clock_of ws ≤ t → t ≤ last → move_number ws t ≡ 0
  unfolding move_number first_of late
  can_move h g = rw (le-ltb t (clock_of ws) h, lt-leb end t (omega arith))

  movable : move_number ws t ≡ 0 → (clock_of ws ≤ t) × (t ≤ last)
  unfolding move_number first_of late
  movable e = go (ltb t (clock_of ws)) refl (leb end t) refl e
    where
      go : (a : Bool) → ltb t (clock_of ws) ≡ a → (b : Bool) → leb end t ≡ b → cond {A = ℕ} (a || b) 5 0 ≡ 0 → (clock_of ws ≤ t) × (t ≤ last)
      go true p b q e = absurd (omega arith)
      go false p true q e = absurd (omega arith)
      go false p false q e = let h = ltb-false t (clock_of ws) p in let g = leb-false end t q in (omega arith, omega arith)

  module _ (size : length ws ≡ words) (ok : move_number ws t ≡ 0) where
    moved-clock : clock_of (move_after ws t) ≡ t
    unfolding move_after after head_change
    moved-clock = rw ok (applied-clock ws (head_change ws t (override_of ws)) size)

    moved-situation : situation_of (move_after ws t) ≡ situation_of ws
    unfolding move_after after head_change
    moved-situation =
        let c = head_change ws t (override_of ws) in
        let zs : zones_of (applied ws c) ≡ zones_of ws = applied-zones ws c size refl ∙ set_out (zones_of ws) slots free_zone (omega (arith, zones_length ws)) in
        rw (ok, applied-settings ws c, applied-since ws c size, applied-override ws c size, zs) refl

    moved-along : Along (values_at (situation_of ws)) (last - clock_of ws) (clock_of ws) t (rows_of (values_at (situation_of ws)) (clock_of ws) (last - clock_of ws))
    moved-along = let b = movable ok in along (values_at (situation_of ws)) (last - clock_of ws) (clock_of ws) t b.0 (omega (arith, b.0, b.1))

    pub shows : ask_answer (move_after ws t) ≡ said_of (rows_from ws) (ask_answer ws) t
    unfolding ask_answer rows_from plan_of plan
    shows = rw (moved-situation, moved-clock) (sym moved-along.0)

    pub rest : rows_from (move_after ws t) ≡ left_at (rows_from ws) t
    unfolding rows_from plan_of plan
    rest =
        let b = movable ok in
        let z : last - t ≡ clock_of ws + (last - clock_of ws) - t = omega (arith, b.0, b.1) in
        rw (moved-situation, moved-clock, z) (sym moved-along.1)

pub moves_as_planned : MovesAsPlanned
unfolding rows_from plan_of ask_answer
moves_as_planned ws size = record { row = row; shows = λ t ok. shows ws t size ok; rest = λ t ok. rest ws t size ok }
  where
    row : (r : ℕ × List ℤ) → Memᴰ r (rows_from ws) → (move_number ws r.0 ≡ 0) × (ask_answer (move_after ws r.0) ≡ r.1)
    row r m =
        let p = plan-is (values_at (situation_of ws)) (clock_of ws) in
        let s = p.sound r m in
        let later = past (clock_of ws) _ p.ascending r m in
        let ok = can_move ws r.0 (omega arith) s.0 in
        (ok, rw (moved-situation ws r.0 size ok, moved-clock ws r.0 size ok) (sym s.2))
