-- The table and the places, walked row by row. Assumes nothing.
use Prim.Native.Nat.{ℕ, zero, suc, ◌+◌, ◌*◌, ◌-◌, ◌≤◌, ◌<◌}
use mathlib.Core.Path.{◌≡◌, refl, sym, ◌∙◌}
use mathlib.Core.Bool.{Bool, true, false, ◌&&◌, ◌||◌}
use mathlib.Core.List.{List, [], ◌∷◌}
use native.Mathlib.Omega.{arith}
use native.Mathlib.Numerals.{add-one}
use lib.ListN.{length, get_or, take, drop}
use lib.Seq.{drop-cons}
use lib.Dec.{ltb, leb, eqb}
use borrow.Author.Tests.{eqb-true, ne_eqb, lt-leb, le-leb}
use Rattle.wire_fields.proofs.Joined.{and_left, and_right}
use Rattle.measurement_table.specs.Table.{rows, no_row, places, range_of}
use Rattle.measurement_table.specs.Cells.{Cell, cells_fit, rows_fit}
use Rattle.measurement_table.specs.Words.{held_from, held, marks_fit}
use Rattle.measurement_table.specs.declared.attributes.Row.{Row}
use Rattle.measurement_writer.specs.Shape.{shaped}

-- SHAPES: one computed test of the table
abbrev all_shaped : List Row → Bool
all_shaped [] = true
all_shaped (r ∷ rs) = shaped r && all_shaped rs

shaped_in : (rs : List Row) (k : ℕ) → k < length rs → all_shaped rs ≡ true → shaped (get_or rs k no_row) ≡ true
shaped_in [] k h e = absurd (omega arith)
shaped_in (r ∷ rs) zero h e = and_left (shaped r) (all_shaped rs) e
shaped_in (r ∷ rs) (suc k) h e = shaped_in rs k (omega arith) (and_right (shaped r) (all_shaped rs) e)

table-long : (k : ℕ) → k < 24 → k < length rows
unfolding rows
table-long k h = omega arith

pub row-shaped : (k : ℕ) (r : Row) → k < 24 → r ≡ get_or rows k no_row → shaped r ≡ true
unfolding rows shaped
row-shaped k r h e = rw e (shaped_in rows k (table-long k h) refl)

pub three_places : (r : Row) → shaped r ≡ true → (r.1 ≡ 1 → ⊥) → r.1 ≡ 3
unfolding shaped
three_places r e z =
    let f : (eqb r.1 1 || eqb r.1 3) ≡ true = and_right (ltb r.0 256) (eqb r.1 1 || eqb r.1 3) e in
    let g : eqb r.1 3 ≡ true = rw (ne_eqb r.1 1 z) at f in
    eqb-true r.1 3 g

-- THE ROWS THAT ARE LEFT
pub row_next : (k : ℕ) (r : Row) → k < 24 → r ≡ get_or rows k no_row → drop k rows ≡ r ∷ drop (k + 1) rows
row_next k r h e = drop-cons rows k no_row (table-long k h) ∙ rw (e, add-one)

places_of : (rs tail : List Row) (r : Row) → rs ≡ r ∷ tail → places rs ≡ r.1 + places tail
unfolding places
places_of rs tail r e = rw e

pub places-next : (k : ℕ) (r : Row) → k < 24 → r ≡ get_or rows k no_row → places (drop k rows) ≡ r.1 + places (drop (k + 1) rows)
places-next k r h e = places_of (drop k rows) (drop (k + 1) rows) r (row_next k r h e)

pub places-start : 0 + places (drop 0 rows) ≡ 36
unfolding places rows
places-start = refl

pub held-take : (ws : List ℕ) (w m i : ℕ) → take w (held_from ws (w + m) i) ≡ held_from ws w i
unfolding held_from
held-take ws zero m i = refl
held-take ws (suc w) m i = let e : suc w + m ≡ suc (w + m) = omega arith in rw (e, held-take ws w m (i + 1))

pub held-drop : (ws : List ℕ) (w m i : ℕ) → drop w (held_from ws (w + m) i) ≡ held_from ws m (i + w)
unfolding held_from
held-drop ws zero m i = let e : 0 + m ≡ m = omega arith in let f : i + 0 ≡ i = omega arith in rw (e, f)
held-drop ws (suc w) m i =
    let e : suc w + m ≡ suc (w + m) = omega arith in
    let f : i + suc w ≡ i + 1 + w = omega arith in
    rw (e, f) (held-drop ws w m (i + 1))

-- the cells of the rows rs, from place i on
abbrev pub held_by : List ℕ → List Row → ℕ → List Cell
held_by ws rs i = held_from ws (places rs) i

-- a row, then the rest
module _ (ws : List ℕ) (rs tail : List Row) (r : Row) (re : rs ≡ r ∷ tail) (i : ℕ) where
  fit_cons : rows_fit rs (held_by ws rs i) ≡ (cells_fit (range_of r.2) (held_from ws r.1 i) && rows_fit tail (held_by ws tail (i + r.1)))
  unfolding rows_fit places
  fit_cons = rw (re, held-take ws r.1 (places tail) i, held-drop ws r.1 (places tail) i)

  pub rows_fit-more : (b : Bool) → b ≡ cells_fit (range_of r.2) (held_from ws r.1 i) → b ≡ true → rows_fit tail (held_by ws tail (i + r.1)) ≡ rows_fit rs (held_by ws rs i)
  rows_fit-more b e z = sym (fit_cons ∙ rw (sym e ∙ z) refl)

  pub rows_fit-not : (b : Bool) → b ≡ cells_fit (range_of r.2) (held_from ws r.1 i) → b ≡ false → false ≡ rows_fit rs (held_by ws rs i)
  rows_fit-not b e z = sym (fit_cons ∙ rw (sym e ∙ z) refl)

-- at the start, and at the end
pub held_all : (ws : List ℕ) → held_by ws (drop 0 rows) 0 ≡ held ws
unfolding held places rows
held_all ws = refl

module _ (k : ℕ) (e : k ≡ 24) (cs : List Cell) where
  pub rows_fit-end : true ≡ rows_fit (drop k rows) cs
  unfolding rows rows_fit
  rows_fit-end = rw e

-- MARKS
module _ (ws : List ℕ) (i : ℕ) (h : i < 36) where
  marks-cons : marks_fit ws (36 - i) i ≡ (leb (get_or ws (2 * i) 0) 2 && marks_fit ws (36 - (i + 1)) (i + 1))
  unfolding marks_fit
  marks-cons = let m : 36 - i ≡ suc (36 - (i + 1)) = omega arith in rw m

  pub mark_not : 2 < get_or ws (2 * i) 0 → false ≡ marks_fit ws (36 - i) i
  mark_not l = sym (marks-cons ∙ rw (lt-leb (get_or ws (2 * i) 0) 2 l) refl)

  pub mark_more : get_or ws (2 * i) 0 ≤ 2 → marks_fit ws (36 - (i + 1)) (i + 1) ≡ marks_fit ws (36 - i) i
  mark_more l = sym (marks-cons ∙ rw (le-leb (get_or ws (2 * i) 0) 2 l) refl)

pub marks-end : (ws : List ℕ) (i : ℕ) → 36 ≤ i → true ≡ marks_fit ws (36 - i) i
unfolding marks_fit
marks-end ws i h = let m : 36 - i ≡ 0 = omega arith in rw m
