-- The direction of flow, case by case, and where its attributes stand. Assumes nothing.
use Prim.Native.Nat.{ℕ, zero, suc, ◌+◌, ◌≤◌, ◌<◌}
use mathlib.Core.Path.{◌≡◌, refl, sym, ap, ◌∙◌}
use mathlib.Core.List.{List, [], ◌∷◌}
use mathlib.Core.Option.{some, none}
use native.Mathlib.Omega.{arith}
use lib.ListN.{get_or}
use lib.IntN.{pos, negsuc}
use borrow.Author.Tests.{eq-eqb, ne_eqb}
use Rattle.measurement_table.specs.Table.{rows}
use Rattle.measurement_table.specs.Cells.{Cell}
use Rattle.measurement_table.specs.Words.{place_of, held_at, held_from, held}
use Rattle.measurement_table.specs.declared.words.Place.{Place}
use Rattle.measurement.specs.Flow.{flow_of, cell_for}
use Rattle.measurement.specs.declared.flow.Flow.{Flow}

mark_of : {p q : Place} → p ≡ q → p.mark ≡ q.mark
mark_of e = ap (λ (x : Place). x.mark) e

size_of : {p q : Place} → p ≡ q → p.size ≡ q.size
size_of e = ap (λ (x : Place). x.size) e

-- BY THE MARK
module _ (p : Place) where
  pub flow_zero : (c : Cell) → p ≡ place_of c → p.mark ≡ 1 → p.size ≡ 0 → Flow.Neither ≡ flow_of c
  unfolding place_of flow_of
  flow_zero none e z y = absurd (omega (arith, mark_of e))
  flow_zero (some (pos n)) e z y = rw (eq-eqb n 0 (sym (size_of e) ∙ y))
  flow_zero (some (negsuc n)) e z y = absurd (omega (arith, mark_of e))

  pub flow-in : (c : Cell) → p ≡ place_of c → p.mark ≡ 1 → (p.size ≡ 0 → ⊥) → Flow.In ≡ flow_of c
  unfolding place_of flow_of
  flow-in none e z y = absurd (omega (arith, mark_of e))
  flow-in (some (pos n)) e z y = rw (ne_eqb n 0 (λ x. y (size_of e ∙ x)))
  flow-in (some (negsuc n)) e z y = absurd (omega (arith, mark_of e))

  pub flow_out : (c : Cell) → p ≡ place_of c → p.mark ≡ 2 → Flow.Out ≡ flow_of c
  unfolding place_of flow_of
  flow_out none e z = absurd (omega (arith, mark_of e))
  flow_out (some (pos n)) e z = absurd (omega (arith, mark_of e))
  flow_out (some (negsuc n)) e z = refl

  pub flow_none : (c : Cell) → p ≡ place_of c → (p.mark ≡ 1 → ⊥) → (p.mark ≡ 2 → ⊥) → Flow.Absent ≡ flow_of c
  unfolding place_of flow_of
  flow_none none e y z = refl
  flow_none (some (pos n)) e y z = absurd (y (mark_of e))
  flow_none (some (negsuc n)) e y z = absurd (z (mark_of e))

-- WHERE THE ATTRIBUTES STAND
module _ (ws : List ℕ) where
  pub power_place : held_at ws 0 ≡ cell_for rows (held ws) 1 0
  unfolding cell_for rows held held_from
  power_place = refl

  pub dc_place : held_at ws 25 ≡ cell_for rows (held ws) 40 0
  unfolding cell_for rows held held_from
  dc_place = refl

  phase_places : (p : ℕ) → cell_for rows (held ws) 10 p ≡ get_or (held_at ws 3 ∷ held_at ws 4 ∷ held_at ws 5 ∷ []) p none
  unfolding cell_for rows held held_from
  phase_places p = refl

  pub phase_place : (p : ℕ) → p < 3 → held_at ws (3 + p) ≡ cell_for rows (held ws) 10 p
  phase_place zero h = sym (phase_places 0)
  phase_place (suc zero) h = sym (phase_places 1)
  phase_place (suc (suc zero)) h = sym (phase_places 2)
  phase_place (suc (suc (suc p))) h = absurd (omega arith)

  pub no_phase : (p : ℕ) → 3 ≤ p → Flow.Absent ≡ flow_of (cell_for rows (held ws) 10 p)
  unfolding flow_of
  no_phase zero h = absurd (omega arith)
  no_phase (suc zero) h = absurd (omega arith)
  no_phase (suc (suc zero)) h = absurd (omega arith)
  no_phase (suc (suc (suc p))) h = rw (phase_places (suc (suc (suc p))))
