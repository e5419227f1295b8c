-- How a plan ends: refused with all as it was, or accepted with its rows at the front of the slice.
use Prim.Native.Nat.{ℕ, zero, suc, ◌+◌, ◌*◌, ◌-◌, ◌<◌, ◌≤◌}
use mathlib.Core.Path.{◌≡◌, refl, ap, ◌∙◌}
use mathlib.Core.Logic.{ite}
use mathlib.Core.List.{List, ◌∷◌, List-discrete}
use native.Mathlib.Nat.{zero-add}
use native.Mathlib.Omega.{arith}
use lib.IntN.{ℤ, ℤ_discrete}
use lib.ListN.{length, length-append}
use lib.Seq.{sets, sets-eq}
use borrow.Author.Tests.{lt-ltb, le-ltb}
use Rattle.device_store.specs.Sizes.{helds}
use Rattle.device_store.specs.Words.{clock_of}
use Rattle.device_holds.specs.Holds.{Situation, situation_of, values_at}
use Rattle.refusals.specs.Refusals.{first_of}
use Rattle.plan.specs.Rows.{last, rows_of, plan}
use Rattle.plan.specs.Plan.{plan_of, row_size, numbers_of, rows_from, plan_number, plan_answer, front, plan_slice}
use Rattle.plan.specs.declared.Planned.{Planned}
use Rattle.plan.proofs.Find.{values_length}

-- HOW MANY NUMBERS
rows-numbers : (f : ℕ → List ℤ) → ((t : ℕ) → length (f t) ≡ 1 + helds) → (n now : ℕ) → length (numbers_of (rows_of f now n)) ≡ length (rows_of f now n) * row_size
unfolding rows_of numbers_of
rows-numbers f each zero now = omega arith
rows-numbers f each (suc n) now = go (List-discrete ℤ_discrete (f (suc now)) (f now)) (rows-numbers f each n (suc now))
  where
    go : (d : Dec (f (suc now) ≡ f now)) → length (numbers_of (rows_of f (suc now) n)) ≡ length (rows_of f (suc now) n) * row_size
        → length (numbers_of (ite d (rows_of f (suc now) n) ((suc now, f (suc now)) ∷ rows_of f (suc now) n)))
        ≡ length (ite d (rows_of f (suc now) n) ((suc now, f (suc now)) ∷ rows_of f (suc now) n)) * row_size
    go (yes e) h = h
    go (no e) h = rw length-append (omega (arith, each (suc now)))

pub numbers_length : (s : Situation) (now : ℕ) → length (numbers_of (plan_of s now)) ≡ length (plan_of s now) * row_size
unfolding plan_of plan
numbers_length s now = rows-numbers (values_at s) (values_length s) (last - now) now

-- THE NUMBER, AND HOW THE CALL ENDS
module _ (ws : List ℕ) (t : ℕ) (now : t ≡ clock_of ws) (old : List ℤ) (n : ℕ) (counted : n ≡ length (plan_of (situation_of ws) t)) where
  abbrev rows : List (ℕ × List ℤ)
  rows = plan_of (situation_of ws) t

  these : rows_from ws ≡ rows
  unfolding rows_from
  these = rw now

  -- the answer and the slice that the contract names
  abbrev pub Ends : Planned → List ℤ → Type 0
  Ends r new = (r ≡ plan_answer ws (length old)) × (new ≡ plan_slice ws old)

  size : n * row_size ≡ length (numbers_of rows)
  size = omega (arith, numbers_length (situation_of ws) t)

  pub full_ends : length old < n * row_size → Ends (record { number = 15; count = 0 }) old
  unfolding plan_number plan_answer plan_slice first_of
  full_ends h = rw (these, lt-ltb (length old) (length (numbers_of rows)) (omega (arith, size))) (refl, refl)

  -- rows written in place
  pub ends : (new : List ℤ) → n * row_size ≤ length old → new ≡ sets old 0 (numbers_of rows) → Ends (record { number = 0; count = n }) new
  unfolding plan_number plan_answer plan_slice first_of front
  ends new h w =
      rw (these, le-ltb (length old) (length (numbers_of rows)) (omega (arith, size)))
      (ap (λ (c : ℕ). record { number = 0; count = c }) counted, w ∙ rw (sets-eq (numbers_of rows) old 0 (omega (arith, size)), zero-add))
