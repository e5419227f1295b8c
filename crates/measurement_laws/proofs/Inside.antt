-- What is read is inside its range, row by row; and what a range is. Assumes nothing.
use Prim.Native.Nat.{ℕ, zero, suc, ◌+◌, ◌-◌, ◌^◌, ◌≤◌}
use mathlib.Core.Path.{◌≡◌, refl, sym, ap, ◌∙◌}
use mathlib.Core.Bool.{Bool, true, false, cond, ◌&&◌}
use mathlib.Core.List.{List, [], ◌∷◌, ◌++◌}
use mathlib.Core.Option
use mathlib.Core.Option.{Option, some, none, bind}
use native.Mathlib.Omega.{arith}
use native.Mathlib.Nat.{pow-suc}
use lib.ListN.{length, length-append}
use lib.Seq.{take_at, drop_at}
use lib.Dec.{eqb, ltb, leb}
use lib.IntN.{ℤ, pos, negsuc, neg_ℤ}
use lib.Signed.{le_z, lt_z}
use borrow.Author.Tests.{eqb-true, leb-true, leb-false, lt-ltb, le-ltb, le-leb}
use Rattle.wire_cbor.specs.Item.{Item, Pairs, payload_of}
use Rattle.wire_cbor.specs.Find.{value_of}
use Rattle.wire_fields.specs.Fields.{int_item, map_in}
use Rattle.wire_fields.specs.Ranges.{within, range, number_in}
use Rattle.wire_fields.specs.ByPhase.{keys_below}
use Rattle.wire_fields.specs.declared.ranges.Range.{Range}
use Rattle.wire_fields.proofs.Joined.{and_same, and_right}
use Rattle.wire_laws.proofs.FieldsAgain.{no_value, same-inside, bind-parts, map-part}
use Rattle.measurement_table.specs.Rows.{ranges}
use Rattle.measurement_table.specs.Table.{rows, range_of, places}
use Rattle.measurement_table.specs.Cells.{Cell, cell_in, cells_from, phases_in, blanks, row_in, rows_in, cell_fits, cells_fit, rows_fit}
use Rattle.measurement_table.specs.Words.{held, marks_fit, range_number}
use Rattle.measurement_table.specs.Payload.{cells_of}
use Rattle.measurement_table.specs.declared.attributes.Row.{Row}
use Rattle.measurement_table.proofs.Order.{table-long}
use Rattle.measurement_laws.specs.Outside.{RowsInside, NeverRead, NeverWritten, NumberExact, RangeExact, SignedExact, UnsignedExact, KindsByWidth, KindsExact}

-- ONE NUMBER
tested : {X : Type 0} (b : Bool) (x y : X) → cond b (some x) none ≡ some y → (b ≡ true) × (x ≡ y)
tested true x y e = (refl, same-inside e)
tested false x y e = absurd (no_value e)

number_read : (g : Range) (i : Item) (z : ℤ) → number_in g i ≡ some z → (i ≡ int_item z) × (within g z ≡ true)
unfolding number_in
number_read g (Item.uint n) z e = let t = tested (within g (pos n)) (pos n) z e in rw (← t.1) (refl, t.0)
number_read g (Item.nint n) z e = let t = tested (within g (negsuc n)) (negsuc n) z e in rw (← t.1) (refl, t.0)
number_read g (Item.bytes b) z e = absurd (no_value e)
number_read g (Item.text b) z e = absurd (no_value e)
number_read g (Item.array is) z e = absurd (no_value e)
number_read g (Item.map m) z e = absurd (no_value e)
number_read g (Item.simple n) z e = absurd (no_value e)

number-back : (g : Range) (z : ℤ) → within g z ≡ true → number_in g (int_item z) ≡ some z
unfolding number_in
number-back g (pos n) h = rw h
number-back g (negsuc n) h = rw h

pub number-exact : NumberExact
number-exact g i z = (number_read g i z, (λ h. rw h.0 (number-back g z h.1)))

cell-inside : (g : Range) (o : Option Item) (c : Cell) → cell_in g o ≡ some c → cell_fits g c ≡ true
unfolding cell_in cell_fits
cell-inside g none c e = rw (← same-inside e) refl
cell-inside g (some i) c e =
    let p = map-part (λ (z : ℤ). some z) (number_in g i) c e in
    rw (← p.2) ((number-exact g i p.0).0 p.1).1

-- A ROW
cells_inside : (g : Range) (w p : ℕ) (qs : Pairs) (cs : List Cell) → cells_from g w p qs ≡ some cs → (cells_fit g cs ≡ true) × (length cs ≡ w)
unfolding cells_from cells_fit
cells_inside g zero p qs cs e = rw (← same-inside e) (refl, refl)
cells_inside g (suc w) p qs cs e =
    let b = bind-parts (cell_in g (value_of qs p)) (λ c. Option.map (λ (l : List Cell). c ∷ l) (cells_from g w (p + 1) qs)) cs e in
    let m = map-part (λ (l : List Cell). b.0 ∷ l) (cells_from g w (p + 1) qs) cs b.2 in
    let r = cells_inside g w (p + 1) qs m.0 m.1 in
    rw (← m.2) (and_same (cell-inside g (value_of qs p) b.0 b.1) r.0, ap suc r.1)

pub held_by_lem : {X : Type 0} (b : Bool) (x : Option X) (y : X) → cond b x none ≡ some y → (b ≡ true) × (x ≡ some y)
held_by_lem true x y e = (refl, e)
held_by_lem false x y e = absurd (no_value e)

phases-inside : (g : Range) (w : ℕ) (i : Item) (cs : List Cell) → phases_in g w i ≡ some cs → (cells_fit g cs ≡ true) × (length cs ≡ w)
unfolding phases_in
phases-inside g w (Item.uint n) cs e = absurd (no_value e)
phases-inside g w (Item.nint n) cs e = absurd (no_value e)
phases-inside g w (Item.bytes b) cs e = absurd (no_value e)
phases-inside g w (Item.text b) cs e = absurd (no_value e)
phases-inside g w (Item.array is) cs e = absurd (no_value e)
phases-inside g w (Item.map Pairs.empty) cs e = absurd (no_value e)
phases-inside g w (Item.map (Pairs.pair j i ps)) cs e =
    let h = held_by_lem (keys_below w (Pairs.pair j i ps)) (cells_from g w 0 (Pairs.pair j i ps)) cs e in
    cells_inside g w 0 (Pairs.pair j i ps) cs h.1
phases-inside g w (Item.simple n) cs e = absurd (no_value e)

blanks-inside : (g : Range) (w : ℕ) → (cells_fit g (blanks w) ≡ true) × (length (blanks w) ≡ w)
unfolding cells_fit blanks cell_fits
blanks-inside g zero = (refl, refl)
blanks-inside g (suc w) = let r = blanks-inside g w in (r.0, ap suc r.1)

by_places : (r : Row) (i : Item) (cs : List Cell) (b : Bool) → eqb r.1 1 ≡ b
    → cond b (Option.map (λ (z : ℤ). some z ∷ []) (number_in (range_of r.2) i)) (phases_in (range_of r.2) r.1 i) ≡ some cs
    → (cells_fit (range_of r.2) cs ≡ true) × (length cs ≡ r.1)
unfolding cells_fit cell_fits
by_places r i cs true w e =
    let p = map-part (λ (z : ℤ). some z ∷ []) (number_in (range_of r.2) i) cs e in
    rw (← p.2) (and_same ((number-exact (range_of r.2) i p.0).0 p.1).1 refl, sym (eqb-true r.1 1 w))
by_places r i cs false w e = phases-inside (range_of r.2) r.1 i cs e

pub row_inside : (r : Row) (o : Option Item) (cs : List Cell) → row_in r o ≡ some cs → (cells_fit (range_of r.2) cs ≡ true) × (length cs ≡ r.1)
unfolding row_in
row_inside r none cs e = rw (← same-inside e) (blanks-inside (range_of r.2) r.1)
row_inside r (some i) cs e = by_places r i cs (eqb r.1 1) refl e

-- THE TABLE
pub rows_inside : RowsInside
unfolding rows_in places rows_fit
rows_inside [] ps cs e = rw (← same-inside e) (refl, refl)
rows_inside (r ∷ rs) ps cs e =
    let p = bind-parts (row_in r (value_of ps r.0)) (λ a. Option.map (λ (l : List Cell). a ++ l) (rows_in rs ps)) cs e in
    let m = map-part (λ (l : List Cell). p.0 ++ l) (rows_in rs ps) cs p.2 in
    let x = row_inside r (value_of ps r.0) p.0 p.1 in
    let y = rows_inside rs ps m.0 m.1 in
    rw (← m.2, take_at p.0 m.0 r.1 x.1, drop_at p.0 m.0 r.1 x.1)
    (and_same x.0 y.0, omega (arith, length-append p.0 m.0, x.1, y.1))

pub never_read : NeverRead
unfolding cells_of
never_read s cs e =
    let p = bind-parts (payload_of s) (λ i. bind (map_in i) (rows_in rows)) cs e in
    let q = bind-parts (map_in p.0) (rows_in rows) cs p.2 in
    let r = rows_inside rows q.0 cs q.2 in
    (r.0, r.1 ∙ table-long.1)

not_three : (b : Bool) → ◌≡◌ {A = ℕ} (cond b 0 3) 0 → b ≡ true
not_three true e = refl
not_three false e = absurd (omega arith)

pub never_written : NeverWritten
unfolding range_number
never_written ws e = and_right (marks_fit ws 36 0) (rows_fit rows (held ws)) (not_three (marks_fit ws 36 0 && rows_fit rows (held ws)) e)

-- WHAT A RANGE IS
-- at most m is below the next
most-below : (n m h : ℕ) → h ≡ suc m → leb n m ≡ ltb n h
most-below n m h s = sym (go (leb n m) refl)
  where
    go : (b : Bool) → leb n m ≡ b → ltb n h ≡ b
    go true e = lt-ltb n h (let l = leb-true n m e in omega arith)
    go false e = le-ltb n h (let l = leb-false n m e in omega arith)

and-true : (b : Bool) → b ≡ (b && true)
and-true true = refl
and-true false = refl

range-by : (b h : ℕ) (z : ℤ) → within (range b h) z ≡ (le_z (neg_ℤ (pos b)) z && le_z z (pos h))
unfolding within
range-by zero h (pos n) = rw (le-leb 0 n (omega arith)) refl
range-by zero h (negsuc n) = le-ltb n 0 (omega arith)
range-by (suc m) h (pos n) = refl
range-by (suc m) h (negsuc n) = sym (most-below n m (suc m) refl) ∙ and-true (leb n m)

pub range-exact : RangeExact
range-exact g z = range-by g.below g.high z

half : (n : ℕ) → 1 ≤ 2 ^ n
half zero = omega arith
half (suc n) = let h = half n in rw pow-suc (omega arith)

most-next : (h : ℕ) (z : ℤ) → 1 ≤ h → le_z z (pos (h - 1)) ≡ lt_z z (pos h)
most-next h (pos n) l = most-below n (h - 1) h (omega arith)
most-next h (negsuc n) l = refl

pub signed-exact : SignedExact
signed-exact w z =
    range-by (2 ^ (w - 1)) (2 ^ (w - 1) - 1) z
    ∙ ap (λ (b : Bool). le_z (neg_ℤ (pos (2 ^ (w - 1)))) z && b) (most-next (2 ^ (w - 1)) z (half (w - 1)))

pub unsigned-exact : UnsignedExact
unsigned-exact w z = range-by 0 (2 ^ w - 1) z ∙ ap (λ (b : Bool). le_z (pos 0) z && b) (most-next (2 ^ w) z (half w))

pub kinds-by_width : KindsByWidth
unfolding range_of ranges
kinds-by_width = (refl, refl, refl, refl, refl, refl)

pub kinds-exact : KindsExact
kinds-exact z =
    let k = kinds-by_width in (
      ap (λ (g : Range). within g z) k.0 ∙ signed-exact 64 z,
      ap (λ (g : Range). within g z) k.1 ∙ unsigned-exact 64 z,
      ap (λ (g : Range). within g z) k.2 ∙ unsigned-exact 32 z,
      ap (λ (g : Range). within g z) k.3 ∙ signed-exact 16 z,
      ap (λ (g : Range). within g z) k.4 ∙ range-by 1000 1000 z,
      ap (λ (g : Range). within g z) k.5 ∙ range-by 0 100 z,
    )
