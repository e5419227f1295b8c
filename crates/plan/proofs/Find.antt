-- The loop that walks from due to due: what is written and what is left to write lead to the plan.
use Prim.Native.Nat.{ℕ, suc, ◌+◌, ◌*◌, ◌<◌, ◌≤◌}
use mathlib.Core.Bool.{true, false}
use mathlib.Core.Path.{◌≡◌, sym, ap, ◌∙◌}
use mathlib.Core.List.{List, [], ◌∷◌, ◌++◌}
use native.Mathlib.Nat.{add-zero}
use native.Mathlib.Omega.{arith}
use lib.IntN.{ℤ, pos}
use lib.ListN.{length, set}
use lib.Seq.{sets, length-sets}
use borrow.Author.Tests.{lt-ltb, le-ltb}
use Rattle.device_store.specs.Sizes.{end, slots, helds}
use Rattle.device_holds.specs.Holds.{Situation, situation_of, value_at, shown, values_at}
use Rattle.device_store.proofs.Runs.{length-up_to}
use Rattle.device_holds.specs.Dues.{dues, view_at}
use Rattle.plan.specs.Plan.{plan_of, row_size, numbers_of}
use Rattle.device_holds.specs.Alike.{alike}
use Rattle.plan.specs.Walk.{step}
use Rattle.device_holds.specs.declared.View.{View}
use Rattle.plan.proofs.Due.{nearest-later}
use Rattle.plan.proofs.Walk.{plan_of-step, plan_of-few}

-- a run of stores in two parts
pub sets-append : (l a b : List ℤ) (i : ℕ) → sets l i (a ++ b) ≡ sets (sets l i a) (i + length a) b
sets-append l [] b i = rw add-zero
sets-append l (x ∷ a) b i = let e : i + suc (length a) ≡ suc i + length a = omega arith in rw e (sets-append (set l i x) a b (suc i))

pub values_length : (s : Situation) (t : ℕ) → length (values_at s t) ≡ 1 + helds
unfolding values_at
values_length s t = rw (length-up_to (λ q. shown (value_at s t q)) helds)

-- the rows still to come, where `last` held before the next due second
abbrev pub left : Situation → List ℤ → ℕ → List (ℕ × List ℤ)
left s last due = step (values_at s) last due (plan_of s due)

module _ (s : Situation) (last : List ℤ) (due : ℕ) where
  left_end : end ≤ due → left s last due ≡ []
  unfolding step
  left_end h = rw (le-ltb due end h)

  left_same : due < end → alike (values_at s due) last ≡ true → left s last due ≡ plan_of s due
  unfolding step
  left_same h e = rw (lt-ltb due end h, e)

  left_new : due < end → alike (values_at s due) last ≡ false → left s last due ≡ (due, values_at s due) ∷ plan_of s due
  unfolding step
  left_new h e = rw (lt-ltb due end h, e)

-- what is left after a second at which v was looked at
left_of : (s : Situation) (t : ℕ) {v : View} → v ≡ view_at s t → left s v.values v.next ≡ plan_of s t
left_of s t e = rw e (sym (plan_of-step s t))

-- COUNTING: `count` rows are counted, and v is what holds at the last second looked at
pub record Counting (ws : List ℕ) (t : ℕ) (count : ℕ) (v : View) : Type 0 where
  pub total : count + length (left (situation_of ws) v.values v.next) ≡ length (plan_of (situation_of ws) t)

pub counting_start : (ws : List ℕ) (t : ℕ) {v : View} → v ≡ view_at (situation_of ws) t → Counting ws t 0 v
counting_start ws t e = record { total = rw (left_of (situation_of ws) t e) (omega arith) }

module _ {ws : List ℕ} {t : ℕ} {count : ℕ} {v : View} (so_far : Counting ws t count v) where
  pub counting_end : end ≤ v.next → count ≡ length (plan_of (situation_of ws) t)
  counting_end h = omega (arith, so_far.total, ap length (left_end (situation_of ws) v.values v.next h))

  module _ {w : View} (here : w ≡ view_at (situation_of ws) v.next) (low : v.next < end) where
    abbrev s : Situation
    s = situation_of ws

    values-here : w.values ≡ values_at s v.next
    values-here = ap (λ (x : View). x.values) here

    row_new : alike w.values v.values ≡ false → left s v.values v.next ≡ (v.next, w.values) ∷ left s w.values w.next
    row_new e = left_new s v.values v.next low (rw values-here at e) ∙ rw (left_of s v.next here, values-here)

    row_same : alike w.values v.values ≡ true → left s v.values v.next ≡ left s w.values w.next
    row_same e = left_same s v.values v.next low (rw values-here at e) ∙ sym (left_of s v.next here)

    pub counting_later : v.next < w.next
    counting_later = rw here (nearest-later v.next (dues s) low)

    -- a row more is one of the plan's
    pub counting_room : alike w.values v.values ≡ false → (count < length (plan_of s t)) × (count < slots * helds)
    counting_room e =
        let less : count < length (plan_of s t) = omega (arith, so_far.total, ap length (row_new e)) in
        (less, omega (arith, plan_of-few ws t))

    pub counting_same : alike w.values v.values ≡ true → Counting ws t count w
    counting_same e = record { total = rw (row_same e) at so_far.total }

    pub counting_new : alike w.values v.values ≡ false → Counting ws t (count + 1) w
    counting_new e = record { total = omega (arith, so_far.total, ap length (row_new e)) }

-- WRITING: the rows counted are written too
pub record Finding (ws : List ℕ) (t : ℕ) (out₀ out : List ℤ) (count : ℕ) (v : View) : Type 0 where
  pub counted : Counting ws t count v
  pub written : sets out (count * row_size) (numbers_of (left (situation_of ws) v.values v.next)) ≡ sets out₀ 0 (numbers_of (plan_of (situation_of ws) t))

pub finding_start : (ws : List ℕ) (t : ℕ) (out₀ : List ℤ) {v : View} → v ≡ view_at (situation_of ws) t → Finding ws t out₀ out₀ 0 v
finding_start ws t out₀ e = record { counted = counting_start ws t e; written = rw (left_of (situation_of ws) t e) }

module _ {ws : List ℕ} {t : ℕ} {out₀ out : List ℤ} {count : ℕ} {v : View} (so_far : Finding ws t out₀ out count v) where
  pub finding_length : length out ≡ length out₀
  finding_length =
      sym (length-sets out (count * row_size) (numbers_of (left (situation_of ws) v.values v.next)))
      ∙ ap length so_far.written ∙ length-sets out₀ 0 (numbers_of (plan_of (situation_of ws) t))

  pub finding_end : end ≤ v.next → (count ≡ length (plan_of (situation_of ws) t)) × (out ≡ sets out₀ 0 (numbers_of (plan_of (situation_of ws) t)))
  unfolding numbers_of
  finding_end h = (counting_end so_far.counted h, rw (left_end (situation_of ws) v.values v.next h) at so_far.written)

  module _ {w : View} (here : w ≡ view_at (situation_of ws) v.next) (low : v.next < end) where
    pub finding_room : alike w.values v.values ≡ false → (count < length (plan_of (situation_of ws) t)) × (count < slots * helds)
    finding_room e = counting_room so_far.counted here low e

    pub finding_same : alike w.values v.values ≡ true → Finding ws t out₀ out count w
    finding_same e = record { counted = counting_same so_far.counted here low e; written = rw (row_same so_far.counted here low e) at so_far.written }

    pub finding_new : alike w.values v.values ≡ false → {out' : List ℤ} → out' ≡ sets out (count * row_size) (pos v.next ∷ w.values) → Finding ws t out₀ out' (count + 1) w
    unfolding numbers_of
    finding_new e put =
        let k : (count + 1) * row_size ≡ count * row_size + length (pos v.next ∷ w.values) =
        omega (arith, ap length (values-here so_far.counted here low), values_length (situation_of ws) v.next)
        in
        record {
          counted = counting_new so_far.counted here low e;
          written =
              rw (put, k, ← sets-append out (pos v.next ∷ w.values) (numbers_of (left (situation_of ws) w.values w.next)) (count * row_size))
              (rw (row_new so_far.counted here low e) at so_far.written);
        }
