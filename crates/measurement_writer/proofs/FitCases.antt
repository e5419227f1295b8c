-- A cell as it is seen and judged, and the rows that hold it, case by case. Assumes nothing.
use Prim.Native.Nat.{ℕ, ◌+◌}
use mathlib.Core.Path.{◌≡◌, refl, sym, ap, ◌∙◌}
use mathlib.Core.Bool.{Bool, true, false, cond, ◌&&◌, ◌||◌}
use mathlib.Core.List.{List, [], ◌∷◌}
use mathlib.Core.Option.{some, none}
use native.Mathlib.Omega.{arith}
use lib.IntN.{pos, negsuc}
use Rattle.wire_cbor.specs.Item.{Item, is_some}
use Rattle.wire_cbor.specs.Scan.{head, no_key_head, key_head_of}
use Rattle.wire_cbor.specs.declared.heads.KeyHead.{KeyHead}
use Rattle.wire_fields.specs.Ranges.{within, number_in, is_null, numeric}
use Rattle.wire_fields.specs.KeyHeads.{Tells}
use Rattle.wire_fields.specs.declared.ranges.Range.{Range}
use Rattle.measurement_table.specs.Table.{rows, range_of}
use Rattle.measurement_table.specs.Cells.{Cell, cell_item, cell_fits, cells_fit, rows_fit}
use Rattle.measurement_table.specs.Words.{place_of, held_at, held_from, held, marks_fit, range_number}
use Rattle.measurement_table.specs.declared.attributes.Row.{Row}
use Rattle.measurement_table.specs.declared.words.Place.{Place}

mark_of : {p q : Place} → p ≡ q → p.mark ≡ q.mark
mark_of e = ap (λ (x : Place). x.mark) e

-- A CELL
module _ (p : Place) where
  pub see_above : (c : Cell) → p ≡ place_of c → p.mark ≡ 1 → head 0 p.size ≡ key_head_of (cell_item c)
  unfolding place_of cell_item key_head_of
  see_above none e z = absurd (omega (arith, mark_of e))
  see_above (some (pos n)) e z = rw e
  see_above (some (negsuc n)) e z = absurd (omega (arith, mark_of e))

  pub see_below : (c : Cell) → p ≡ place_of c → p.mark ≡ 2 → head 1 p.size ≡ key_head_of (cell_item c)
  unfolding place_of cell_item key_head_of
  see_below none e z = absurd (omega (arith, mark_of e))
  see_below (some (pos n)) e z = absurd (omega (arith, mark_of e))
  see_below (some (negsuc n)) e z = rw e

  pub see_none : (c : Cell) → p ≡ place_of c → (p.mark ≡ 1 → ⊥) → (p.mark ≡ 2 → ⊥) → no_key_head ≡ key_head_of (cell_item c)
  unfolding place_of cell_item key_head_of
  see_none none e y z = refl
  see_none (some (pos n)) e y z = absurd (y (mark_of e))
  see_none (some (negsuc n)) e y z = absurd (z (mark_of e))

numeric-cell : (g : Range) (c : Cell) → numeric g false (cell_item c) ≡ cell_fits g c
unfolding cell_item cell_fits numeric number_in
numeric-cell g none = refl
numeric-cell g (some (pos n)) = go (within g (pos n)) where
  go : (b : Bool) → (is_some (cond b (some (pos n)) none) || (false && is_null (Item.uint n))) ≡ b
  go true = refl
  go false = refl
numeric-cell g (some (negsuc n)) = go (within g (negsuc n)) where
  go : (b : Bool) → (is_some (cond b (some (negsuc n)) none) || (false && is_null (Item.nint n))) ≡ b
  go true = refl
  go false = refl

pub cell-judged : (g : Range) (c : Cell) (k : KeyHead) → k ≡ key_head_of (cell_item c) → (b : Bool) → Tells k (numeric g false) b → b ≡ cell_fits g c
unfolding Tells
cell-judged g c k e b t = sym (t (cell_item c) e) ∙ numeric-cell g c

-- A ROW OF ONE PLACE, AND OF THREE
pub held_one : (ws : List ℕ) (i n : ℕ) → n ≡ 1 → held_from ws n i ≡ held_at ws i ∷ []
unfolding held_from
held_one ws i n e = rw e

pub held-three : (ws : List ℕ) (i n : ℕ) → n ≡ 3 → held_from ws n i ≡ held_at ws i ∷ held_at ws (i + 1) ∷ held_at ws (i + 2) ∷ []
unfolding held_from
held-three ws i n e = let f : i + 1 + 1 ≡ i + 2 = omega arith in rw (e, f)

and-true : (a : Bool) → a ≡ (a && true)
and-true true = refl
and-true false = refl

module _ (ws : List ℕ) (i : ℕ) (r : Row) where
  pub one_fits : r.1 ≡ 1 → (g : Range) → g ≡ range_of r.2 → (b : Bool) → b ≡ cell_fits g (held_at ws i) → b ≡ cells_fit (range_of r.2) (held_from ws r.1 i)
  unfolding cells_fit
  one_fits l g f b e = rw (held_one ws i r.1 l, ← f, ← e) (and-true b)

  pub three_fit : r.1 ≡ 3 → (g : Range) → g ≡ range_of r.2 → (x y z b : Bool) → x ≡ cell_fits g (held_at ws i) → y ≡ cell_fits g (held_at ws (i + 1)) → z ≡ cell_fits g (held_at ws (i + 2))
      → b ≡ (x && (y && z)) → b ≡ cells_fit (range_of r.2) (held_from ws r.1 i)
  unfolding cells_fit
  three_fit l g f x y z b p q s e = e ∙ rw (held-three ws i r.1 l, ← f, ← p, ← q, ← s) (ap (λ (u : Bool). x && (y && u)) (and-true z))

-- REFUSAL 3
module _ (ws : List ℕ) (b : Bool) (e : b ≡ marks_fit ws 36 0) where
  pub mark_refused : b ≡ false → 3 ≡ range_number ws
  unfolding range_number
  mark_refused z = rw (sym e ∙ z)

  module _ (y : b ≡ true) (c : Bool) (f : c ≡ rows_fit rows (held ws)) where
    pub range-refused : c ≡ false → 3 ≡ range_number ws
    unfolding range_number
    range-refused z = rw (sym e ∙ y, sym f ∙ z)

    pub not-refused : c ≡ true → 0 ≡ range_number ws
    unfolding range_number
    not-refused z = rw (sym e ∙ y, sym f ∙ z)
