-- A map without unknown keys that is read and written again is the same map, over any table. Assumes nothing.
use Prim.Native.Nat.{ℕ, zero, suc, ◌+◌, ◌^◌, ◌≤◌, ◌<◌}
use mathlib.Core.Path.{◌≡◌, refl, sym, ap}
use mathlib.Core.Bool.{Bool, true, false, cond}
use mathlib.Core.List.{List, [], ◌∷◌, ◌++◌}
use mathlib.Core.Option
use mathlib.Core.Option.{Option, some, none}
use native.Mathlib.Omega.{arith}
use lib.ListN.{length, drop}
use lib.Seq.{take_at, drop_at}
use lib.Dec.{eqb}
use lib.IntN.{ℤ}
use borrow.Author.Tests.{eqb-true, eqb-false}
use Rattle.wire_cbor.specs.Item.{Item, Pairs, Ok, OkPairs}
use Rattle.wire_cbor.specs.Find.{value_of}
use Rattle.wire_fields.specs.Fields.{present}
use Rattle.wire_fields.specs.Ranges.{number_in}
use Rattle.wire_fields.specs.ByPhase.{keys_below}
use Rattle.wire_fields.specs.declared.ranges.Range.{Range}
use Rattle.wire_fields.proofs.Joined.{or_left, or_right}
use Rattle.wire_laws.proofs.Maps.{Holds, has_key, OkField, same_map}
use Rattle.wire_laws.proofs.FieldsAgain.{no_value, same-inside, bind-parts, map-part}
use Rattle.wire_laws.proofs.PhaseTrips.{held-ok}
use Rattle.measurement_table.specs.Table.{range_of}
use Rattle.measurement_table.specs.Cells.{Cell, cell_in, cells_from, phases_in, blanks, row_in, rows_in, cell_item, phase_fields, some_map, first_item, row_item, fields_of}
use Rattle.measurement_table.specs.declared.attributes.Row.{Row}
use Rattle.measurement_table.proofs.Order.{Rising}
use Rattle.measurement_laws.specs.RoundTrips.{Unknown, RowsWriteAgain}
use Rattle.measurement_laws.proofs.Fields.{Narrow, ok_held, none_from}
use Rattle.measurement_laws.proofs.Inside.{number-exact, held_by_lem, row_inside}
use Rattle.measurement_laws.proofs.Back.{phases-ascend, fields_ascend}

-- CELLS
cell-again : (g : Range) (o : Option Item) (c : Cell) → cell_in g o ≡ some c → o ≡ cell_item c
unfolding cell_in cell_item
cell-again g none c e = rw (← same-inside e) refl
cell-again g (some i) c e =
    let p = map-part (λ (z : ℤ). some z) (number_in g i) c e in
    rw (← p.2) (ap some ((number-exact g i p.0).0 p.1).0)

cells_again : (g : Range) (w p : ℕ) (qs : Pairs) (cs : List Cell) → cells_from g w p qs ≡ some cs → Holds qs (phase_fields p cs)
unfolding cells_from phase_fields
cells_again g zero p qs cs e = rw (← same-inside e) tt
cells_again g (suc w) p qs cs e =
    let b = bind-parts (cell_in g (value_of qs p)) (λ c. Option.map (λ (l : List Cell). c ∷ l) (cells_from g w (p + 1) qs)) cs e in
    let m = map-part (λ (l : List Cell). b.0 ∷ l) (cells_from g w (p + 1) qs) cs b.2 in
    rw (← m.2) (cell-again g (value_of qs p) b.0 b.1, cells_again g w (p + 1) qs m.0 m.1)

-- A MAP OF PHASES
phases-narrow : (p : ℕ) (cs : List Cell) → p + length cs < 2 ^ 64 → Narrow (phase_fields p cs)
unfolding phase_fields
phases-narrow p [] h = tt
phases-narrow p (c ∷ cs) h = (omega arith, phases-narrow (p + 1) cs (omega arith))

phase_past : (p k : ℕ) (cs : List Cell) → has_key (phase_fields p cs) k ≡ false → p ≤ k → p + length cs ≤ k
unfolding phase_fields
phase_past p k [] h l = omega arith
phase_past p k (c ∷ cs) h l =
    let rest = has_key (phase_fields (p + 1) cs) k in
    let n = eqb-false p k (or_left (eqb p k) rest h) in
    let r = phase_past (p + 1) k cs (or_right (eqb p k) rest h) (omega (arith, n)) in
    omega arith

phase-map : (g : Range) (w d : ℕ) (qs : Pairs) (cs : List Cell) → w < 2 ^ 64 → length cs ≡ w → OkPairs qs 0 d → keys_below w qs ≡ true → cells_from g w 0 qs ≡ some cs
    → present (phase_fields 0 cs) ≡ qs
phase-map g w d qs cs l z o b e =
    let c = cells_again g w 0 qs cs e in
    same_map qs (phase_fields 0 cs) 0 d o (phases-ascend 0 cs) (ok_held qs (phase_fields 0 cs) 0 d o (phases-narrow 0 cs (omega arith)) c) c
    (λ j h. none_from qs w j b (let p = phase_past 0 j cs h (omega arith) in omega arith))

phases-again : (g : Range) (w d : ℕ) (i : Item) (cs : List Cell) → w < 2 ^ 64 → length cs ≡ w → Ok i (suc d) → phases_in g w i ≡ some cs → some i ≡ some_map (present (phase_fields 0 cs))
unfolding phases_in Ok some_map
phases-again g w d (Item.uint n) cs l z o e = absurd (no_value e)
phases-again g w d (Item.nint n) cs l z o e = absurd (no_value e)
phases-again g w d (Item.bytes b) cs l z o e = absurd (no_value e)
phases-again g w d (Item.text b) cs l z o e = absurd (no_value e)
phases-again g w d (Item.array is) cs l z o e = absurd (no_value e)
phases-again g w d (Item.map Pairs.empty) cs l z o e = absurd (no_value e)
phases-again g w d (Item.map (Pairs.pair j i ps)) cs l z o e =
    let h = held_by_lem (keys_below w (Pairs.pair j i ps)) (cells_from g w 0 (Pairs.pair j i ps)) cs e in
    rw (phase-map g w d (Pairs.pair j i ps) cs l z o.1 h.0 h.1) refl
phases-again g w d (Item.simple n) cs l z o e = absurd (no_value e)

-- A ROW
no_phases : (p w : ℕ) → present (phase_fields p (blanks w)) ≡ Pairs.empty
unfolding phase_fields present blanks cell_item
no_phases p zero = refl
no_phases p (suc w) = no_phases (p + 1) w

no_item : (r : Row) → row_item r (blanks r.1) ≡ none
unfolding row_item first_item blanks some_map cell_item
no_item r = go (eqb r.1 1) refl
  where
    go : (b : Bool) → eqb r.1 1 ≡ b → cond b (first_item (blanks r.1)) (some_map (present (phase_fields 0 (blanks r.1)))) ≡ none
    go true e = rw (eqb-true r.1 1 e)
    go false e = rw (no_phases 0 r.1)

by_places : (r : Row) (d : ℕ) (i : Item) (cs : List Cell) → r.1 < 2 ^ 64 → length cs ≡ r.1 → Ok i (suc d) → (b : Bool) → eqb r.1 1 ≡ b
    → cond b (Option.map (λ (z : ℤ). some z ∷ []) (number_in (range_of r.2) i)) (phases_in (range_of r.2) r.1 i) ≡ some cs → some i ≡ row_item r cs
unfolding row_item first_item cell_item
by_places r d i cs l z o true w e =
    let p = map-part (λ (z : ℤ). some z ∷ []) (number_in (range_of r.2) i) cs e in
    rw (← p.2, w) (ap some ((number-exact (range_of r.2) i p.0).0 p.1).0)
by_places r d i cs l z o false w e = rw w (phases-again (range_of r.2) r.1 d i cs l z o e)

row-again : (r : Row) (d : ℕ) (o : Option Item) (cs : List Cell) → r.1 < 2 ^ 64 → length cs ≡ r.1 → OkField o (suc d) → row_in r o ≡ some cs → o ≡ row_item r cs
unfolding row_in
row-again r d none cs l z o e = rw (← same-inside e) (sym (no_item r))
row-again r d (some i) cs l z o e = by_places r d i cs l z o (eqb r.1 1) refl e

-- THE TABLE
rows-again : (rs : List Row) (ps : Pairs) (cs : List Cell) (b lo d : ℕ) → Rising rs b → OkPairs ps lo (suc d) → rows_in rs ps ≡ some cs → Holds ps (fields_of rs cs)
unfolding fields_of rows_in
rows-again [] ps cs b lo d g o e = tt
rows-again (r ∷ rs) ps cs b lo d g o e =
    let p = bind-parts (row_in r (value_of ps r.0)) (λ a. Option.map (λ (l : List Cell). a ++ l) (rows_in rs ps)) cs e in
    let m = map-part (λ (l : List Cell). p.0 ++ l) (rows_in rs ps) cs p.2 in
    let z = (row_inside r (value_of ps r.0) p.0 p.1).1 in
    let x = row-again r d (value_of ps r.0) p.0 g.2 z (held-ok ps lo (suc d) r.0 (value_of ps r.0) o refl) p.1 in
    let y = rows-again rs ps m.0 (r.0 + 1) lo d g.3 o m.1 in
    rw (← m.2, take_at p.0 m.0 r.1 z, drop_at p.0 m.0 r.1 z) (x, y)

fields_narrow : (rs : List Row) (cs : List Cell) (b : ℕ) → Rising rs b → Narrow (fields_of rs cs)
unfolding fields_of
fields_narrow [] cs b g = tt
fields_narrow (r ∷ rs) cs b g = (g.1, fields_narrow rs (drop r.1 cs) (r.0 + 1) g.3)

unknown : (rs : List Row) (cs : List Cell) (k : ℕ) → has_key (fields_of rs cs) k ≡ false → Unknown rs k
unfolding fields_of
unknown [] cs k h = tt
unknown (r ∷ rs) cs k h =
    let rest = has_key (fields_of rs (drop r.1 cs)) k in
    (eqb-false r.0 k (or_left (eqb r.0 k) rest h), unknown rs (drop r.1 cs) k (or_right (eqb r.0 k) rest h))

pub rows-write_again : RowsWriteAgain
rows-write_again rs ps cs lo d g o u e =
    let x = rows-again rs ps cs 0 lo d g o e in
    same_map ps (fields_of rs cs) lo (suc d) o (fields_ascend rs cs 0 g) (ok_held ps (fields_of rs cs) lo (suc d) o (fields_narrow rs cs 0 g) x) x (λ k h. u k (unknown rs cs k h))
