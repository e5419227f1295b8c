-- What is written reads back equal, over any table. Assumes nothing.
use Prim.Native.Nat.{ℕ, ◌+◌, ◌≤◌}
use mathlib.Core.Path.{◌≡◌, refl, sym, ap, ◌∙◌}
use mathlib.Core.Bool.{Bool, true, false, cond}
use mathlib.Core.List.{List, [], ◌∷◌}
use mathlib.Core.Option.{some, none, bind}
use native.Mathlib.Omega.{arith}
use lib.ListN.{length, take, drop, length-drop, take-append-drop}
use lib.Seq.{length-take-le}
use lib.Dec.{eqb}
use borrow.Author.Tests.{eqb-true, lt-ltb}
use Rattle.wire_cbor.specs.Item.{Pairs}
use Rattle.wire_fields.specs.Fields.{present, int_item}
use Rattle.wire_fields.specs.Ranges.{within}
use Rattle.wire_fields.specs.ByPhase.{keys_below}
use Rattle.wire_fields.specs.declared.ranges.Range.{Range}
use Rattle.wire_fields.proofs.Joined.{and_left, and_right, and_same}
use Rattle.wire_laws.proofs.Maps.{Ascending, Holds}
use Rattle.measurement_table.specs.Table.{range_of, places}
use Rattle.measurement_table.specs.Cells.{Cell, cell_in, cells_from, phases_in, blanks, row_in, rows_in, cell_item, phase_fields, some_map, first_item, row_item, fields_of, cell_fits, cells_fit, rows_fit}
use Rattle.measurement_table.specs.declared.attributes.Row.{Row}
use Rattle.measurement_table.proofs.Order.{Rising}
use Rattle.measurement_laws.specs.RoundTrips.{OthersPassed, RowsReadBack}
use Rattle.measurement_laws.proofs.Fields.{holds_present}
use Rattle.measurement_laws.proofs.Inside.{number-exact}

-- CELLS
cell-back : (g : Range) (c : Cell) → cell_fits g c ≡ true → cell_in g (cell_item c) ≡ some c
unfolding cell_in cell_item cell_fits
cell-back g none h = refl
cell-back g (some z) h = rw ((number-exact g (int_item z) z).1 (refl, h))

cells_back : (g : Range) (p : ℕ) (cs : List Cell) (qs : Pairs) → Holds qs (phase_fields p cs) → cells_fit g cs ≡ true → cells_from g (length cs) p qs ≡ some cs
unfolding cells_from phase_fields cells_fit bind
cells_back g p [] qs h f = refl
cells_back g p (c ∷ cs) qs h f =
    rw (h.0, cell-back g c (and_left (cell_fits g c) (cells_fit g cs) f), cells_back g (p + 1) cs qs h.1 (and_right (cell_fits g c) (cells_fit g cs) f))

pub phases-ascend : (p : ℕ) (cs : List Cell) → Ascending (phase_fields p cs) p
unfolding phase_fields
phases-ascend p [] = tt
phases-ascend p (c ∷ cs) = (omega arith, phases-ascend (p + 1) cs)

phases-below : (p w : ℕ) (cs : List Cell) → p + length cs ≤ w → keys_below w (present (phase_fields p cs)) ≡ true
unfolding phase_fields present keys_below cell_item
phases-below p w [] h = refl
phases-below p w (none ∷ cs) h = phases-below (p + 1) w cs (omega arith)
phases-below p w (some z ∷ cs) h = and_same (lt-ltb p w (omega arith)) (phases-below (p + 1) w cs (omega arith))

-- a map that holds nothing was written for blanks
all_blank : (p : ℕ) (cs : List Cell) → present (phase_fields p cs) ≡ Pairs.empty → cs ≡ blanks (length cs)
unfolding phase_fields present blanks cell_item
all_blank p [] e = refl
all_blank p (none ∷ cs) e = ap (λ (l : List Cell). none ∷ l) (all_blank (p + 1) cs e)
all_blank p (some z ∷ cs) e = absurd (let z : ◌≡◌ {A = ℕ} 0 1 = cc in omega arith)

-- ROWS
-- one number
single-back : (g : Range) (cs : List Cell) → length cs ≡ 1 → cells_fit g cs ≡ true → (r : Row) → r.1 ≡ 1 → range_of r.2 ≡ g → row_in r (first_item cs) ≡ some cs
unfolding row_in first_item cell_item cells_fit cell_fits blanks
single-back g [] l f r e q = absurd (omega arith)
single-back g (none ∷ []) l f r e q = rw e
single-back g (some z ∷ []) l f r e q = rw (e, q, (number-exact g (int_item z) z).1 (refl, and_left (within g z) true f))
single-back g (c ∷ d ∷ cs) l f r e q = absurd (omega arith)

-- one for each phase
phases-back : (r : Row) (cs : List Cell) (qs : Pairs) → present (phase_fields 0 cs) ≡ qs → length cs ≡ r.1 → eqb r.1 1 ≡ false
    → cells_fit (range_of r.2) cs ≡ true → row_in r (some_map qs) ≡ some cs
unfolding row_in some_map phases_in
phases-back r cs Pairs.empty e l b f = ap some (rw (← l) (sym (all_blank 0 cs e)))
phases-back r cs (Pairs.pair j i ps) e l b f =
    let n : keys_below r.1 (Pairs.pair j i ps) ≡ true = rw (← e) (phases-below 0 r.1 cs (omega arith)) in
    let h : Holds (Pairs.pair j i ps) (phase_fields 0 cs) = rw (← e) (holds_present (phase_fields 0 cs) 0 (phases-ascend 0 cs)) in
    rw (b, n, ← l) (cells_back (range_of r.2) 0 cs (Pairs.pair j i ps) h f)

row_back : (r : Row) (cs : List Cell) → length cs ≡ r.1 → cells_fit (range_of r.2) cs ≡ true → row_in r (row_item r cs) ≡ some cs
unfolding row_item
row_back r cs l f = go (eqb r.1 1) refl
  where
    go : (b : Bool) → eqb r.1 1 ≡ b → row_in r (cond b (first_item cs) (some_map (present (phase_fields 0 cs)))) ≡ some cs
    go true e = let o = eqb-true r.1 1 e in single-back (range_of r.2) cs (l ∙ o) f r o refl
    go false e = phases-back r cs (present (phase_fields 0 cs)) refl l e f

-- THE TABLE
pub others-passed : OthersPassed
unfolding rows_in
others-passed [] ps qs h = refl
others-passed (r ∷ rs) ps qs h = rw (h.0, others-passed rs ps qs h.1) refl

pub fields_ascend : (rs : List Row) (cs : List Cell) (lo : ℕ) → Rising rs lo → Ascending (fields_of rs cs) lo
unfolding fields_of
fields_ascend [] cs lo h = tt
fields_ascend (r ∷ rs) cs lo h = (h.0, fields_ascend rs (drop r.1 cs) (r.0 + 1) h.3)

rows-held : (rs : List Row) (cs : List Cell) (ps : Pairs) → Holds ps (fields_of rs cs) → length cs ≡ places rs → rows_fit rs cs ≡ true → rows_in rs ps ≡ some cs
unfolding fields_of rows_in places rows_fit bind
rows-held [] [] ps h l f = refl
rows-held [] (c ∷ cs) ps h l f = absurd (omega arith)
rows-held (r ∷ rs) cs ps h l f =
    let mine = cells_fit (range_of r.2) (take r.1 cs) in
    let others = rows_fit rs (drop r.1 cs) in
    let a : length (take r.1 cs) ≡ r.1 = length-take-le r.1 cs (omega arith) in
    let b : length (drop r.1 cs) ≡ places rs = omega (arith, length-drop r.1 cs) in
    let u = row_back r (take r.1 cs) a (and_left mine others f) in
    let v = rows-held rs (drop r.1 cs) ps h.1 b (and_right mine others f) in
    rw (h.0, u, v) (ap some (take-append-drop r.1 cs))

pub rows-read_back : RowsReadBack
rows-read_back rs cs lo a l f = rows-held rs cs (present (fields_of rs cs)) (holds_present (fields_of rs cs) lo (fields_ascend rs cs lo a)) l f
