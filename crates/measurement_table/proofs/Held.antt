-- A place read from words: by its mark; past the words, nothing. Assumes nothing.
use Prim.Native.Nat.{ℕ, suc, ◌+◌, ◌*◌, ◌≤◌}
use mathlib.Core.Path.{◌≡◌}
use mathlib.Core.List.{List, [], ◌∷◌}
use lib.ListN.{get_or, length, get_or-eq_default}
use lib.Seq.{sets, set_out}
use native.Mathlib.Omega.{arith}
use borrow.Author.Tests.{eq-eqb, ne_eqb}
use Rattle.measurement_table.specs.Words.{place, place_of, cell_of, held_at}

module _ (ws : List ℕ) (i : ℕ) where
  pub get_one : get_or ws (2 * i) 0 ≡ 1 → place 1 (get_or ws (2 * i + 1) 0) ≡ place_of (held_at ws i)
  unfolding place_of held_at cell_of
  get_one e = rw (eq-eqb (get_or ws (2 * i) 0) 1 e)

  pub get_two : (get_or ws (2 * i) 0 ≡ 1 → ⊥) → get_or ws (2 * i) 0 ≡ 2 → place 2 (get_or ws (2 * i + 1) 0) ≡ place_of (held_at ws i)
  unfolding place_of held_at cell_of
  get_two z e = rw (ne_eqb (get_or ws (2 * i) 0) 1 z, eq-eqb (get_or ws (2 * i) 0) 2 e)

  pub get_none : (get_or ws (2 * i) 0 ≡ 1 → ⊥) → (get_or ws (2 * i) 0 ≡ 2 → ⊥) → place 0 0 ≡ place_of (held_at ws i)
  unfolding place_of held_at cell_of
  get_none z y = rw (ne_eqb (get_or ws (2 * i) 0) 1 z, ne_eqb (get_or ws (2 * i) 0) 2 y)

  pub get_past : length ws ≤ 2 * i → place 0 0 ≡ place_of (held_at ws i)
  get_past h =
      let e = get_or-eq_default ws 0 {n = 2 * i} h in
      get_none (λ o. omega (arith, e)) (λ o. omega (arith, e))

  pub put-past : (m n : ℕ) → length ws ≤ 2 * i → ws ≡ sets ws (2 * i) (m ∷ n ∷ [])
  put-past m n h = rw (set_out ws (2 * i) m h, set_out ws (suc (2 * i)) n (omega (arith, h)))
