-- The loop that walks from due to due: no row stands before the second that is looked at.
use Prim.Native.Nat.{ℕ, ◌<◌, ◌≤◌}
use mathlib.Core.Bool.{true, false}
use mathlib.Core.Path.{◌≡◌, sym, ap, ◌∙◌}
use mathlib.Core.List.{List, [], ◌∷◌}
use Rattle.std.specs.Prelude.{None, Some}
use borrow.Author.Tests.{lt-ltb, le-ltb}
use Rattle.device_store.specs.Sizes.{end}
use Rattle.device_holds.specs.Holds.{Situation, situation_of, values_at}
use Rattle.device_holds.specs.Alike.{alike}
use Rattle.device_holds.specs.Dues.{dues, view_at}
use Rattle.device_holds.specs.declared.View.{View}
use Rattle.plan.specs.Plan.{plan_of}
use Rattle.plan.specs.Walk.{step}
use Rattle.plan.proofs.Due.{nearest-later}
use Rattle.plan.proofs.Walk.{plan_of-step}
use Rattle.plan_next.specs.Next.{first_row}

-- the rows still to come are all of the plan after t, where v is what holds at the last second looked at
pub record Seeking (ws : List ℕ) (t : ℕ) (v : View) : Type 0 where
  pub whole : step (values_at (situation_of ws)) v.values v.next (plan_of (situation_of ws) v.next) ≡ plan_of (situation_of ws) t

left_of : (s : Situation) (t : ℕ) {v : View} → v ≡ view_at s t → step (values_at s) v.values v.next (plan_of s v.next) ≡ plan_of s t
left_of s t e = rw e (sym (plan_of-step s t))

pub seeking_start : (ws : List ℕ) (t : ℕ) {v : View} → v ≡ view_at (situation_of ws) t → Seeking ws t v
seeking_start ws t e = record { whole = left_of (situation_of ws) t e }

module _ {ws : List ℕ} {t : ℕ} {v : View} (so_far : Seeking ws t v) where
  abbrev s : Situation
  s = situation_of ws

  seeking_none : end ≤ v.next → plan_of s t ≡ []
  unfolding step
  seeking_none h = sym so_far.whole ∙ rw (le-ltb v.next end h)

  pub seeking_end : end ≤ v.next → None ≡ first_row (plan_of s t)
  unfolding first_row
  seeking_end h = rw (seeking_none h)

  module _ {w : View} (here : w ≡ view_at s v.next) (low : v.next < end) where
    values-here : w.values ≡ values_at s v.next
    values-here = ap (λ (x : View). x.values) here

    pub seeking_later : v.next < w.next
    seeking_later = rw here (nearest-later v.next (dues s) low)

    left_same : alike (values_at s v.next) v.values ≡ true → step (values_at s) v.values v.next (plan_of s v.next) ≡ plan_of s v.next
    unfolding step
    left_same e = rw (lt-ltb v.next end low, e)

    left_new : alike (values_at s v.next) v.values ≡ false
        → step (values_at s) v.values v.next (plan_of s v.next) ≡ (v.next, values_at s v.next) ∷ plan_of s v.next
    unfolding step
    left_new e = rw (lt-ltb v.next end low, e)

    pub seeking_same : alike w.values v.values ≡ true → Seeking ws t w
    seeking_same e = record { whole = left_of s v.next here ∙ sym (left_same (rw values-here at e)) ∙ so_far.whole }

    row_new : alike w.values v.values ≡ false → plan_of s t ≡ (v.next, w.values) ∷ plan_of s v.next
    row_new e = sym so_far.whole ∙ left_new (rw values-here at e) ∙ rw values-here

    pub seeking_found : alike w.values v.values ≡ false → Some (v.next, w.values) ≡ first_row (plan_of s t)
    unfolding first_row
    seeking_found e = rw (row_new e)
