-- What is written for a table is well formed. Assumes nothing.
use Prim.Native.Nat.{ℕ, zero, suc, ◌+◌, ◌^◌, ◌≤◌, ◌<◌}
use mathlib.Core.Path.{◌≡◌, refl, ap}
use mathlib.Core.Bool.{Bool, true, false, cond}
use mathlib.Core.List.{List, [], ◌∷◌}
use mathlib.Core.Option.{some, none}
use native.Mathlib.Omega.{arith}
use lib.ListN.{length, get_or, take, drop}
use lib.Dec.{eqb}
use lib.IntN.{pos, negsuc}
use borrow.Author.Tests.{ltb-true, leb-true}
use Rattle.wire_cbor.specs.Item.{Item, Pairs, Ok}
use Rattle.wire_fields.specs.Fields.{present}
use Rattle.wire_fields.specs.Ranges.{within}
use Rattle.wire_fields.specs.declared.ranges.Range.{Range}
use Rattle.wire_fields.proofs.Joined.{and_left, and_right}
use Rattle.wire_laws.proofs.Maps.{OkField, OkFields, ok_map}
use Rattle.measurement_table.specs.Table.{ranges, range_of}
use Rattle.measurement_table.specs.Cells.{Cell, cell_item, phase_fields, some_map, first_item, row_item, fields_of, cell_fits, cells_fit, rows_fit}
use Rattle.measurement_table.specs.declared.attributes.Row.{Row}
use Rattle.measurement_table.proofs.Order.{Rising}
use Rattle.measurement_laws.proofs.Back.{phases-ascend, fields_ascend}

-- every range is within 64 bits
abbrev Wide : Range → Type 0
Wide g = (g.below ≤ 2 ^ 64) × (g.high < 2 ^ 64)

abbrev AllWide : List Range → Type 0
AllWide [] = Unit {0}
AllWide (b ∷ bs) = Wide b × AllWide bs

wide_at_lem : (bs : List Range) (k : ℕ) (b : Range) → AllWide bs → Wide b → Wide (get_or bs k b)
wide_at_lem [] k b a w = w
wide_at_lem (x ∷ bs) zero b a w = a.0
wide_at_lem (x ∷ bs) (suc k) b a w = wide_at_lem bs k b a.1 w

kind_wide : (k : ℕ) → Wide (range_of k)
unfolding range_of ranges
kind_wide k =
    wide_at_lem ranges k _
    ((omega arith, omega arith), ((omega arith, omega arith), ((omega arith, omega arith), ((omega arith, omega arith), ((omega arith, omega arith), ((omega arith, omega arith), tt))))))
    (omega arith, omega arith)

-- WELL FORMED
module _ (k : ℕ) where
  ok_cell : (d : ℕ) (c : Cell) → cell_fits (range_of k) c ≡ true → OkField (cell_item c) d
  unfolding cell_item cell_fits within Ok
  ok_cell d none h = tt
  ok_cell d (some (pos n)) h = omega (arith, leb-true n (range_of k).high h, (kind_wide k).1)
  ok_cell d (some (negsuc n)) h = omega (arith, ltb-true n (range_of k).below h, (kind_wide k).0)

  ok_phases : (d p : ℕ) (cs : List Cell) → p + length cs < 2 ^ 64 → cells_fit (range_of k) cs ≡ true → OkFields (phase_fields p cs) d
  unfolding phase_fields cells_fit
  ok_phases d p [] l h = tt
  ok_phases d p (c ∷ cs) l h = (
    omega arith,
    ok_cell d c (and_left (cell_fits (range_of k) c) (cells_fit (range_of k) cs) h),
    ok_phases d (p + 1) cs (omega arith) (and_right (cell_fits (range_of k) c) (cells_fit (range_of k) cs) h),
  )

  ok_first : (d : ℕ) (cs : List Cell) → cells_fit (range_of k) cs ≡ true → OkField (first_item cs) d
  unfolding first_item cells_fit
  ok_first d [] h = tt
  ok_first d (c ∷ cs) h = ok_cell d c (and_left (cell_fits (range_of k) c) (cells_fit (range_of k) cs) h)

pub phases-count : (p : ℕ) (cs : List Cell) → length (phase_fields p cs) ≡ length cs
unfolding phase_fields
phases-count p [] = refl
phases-count p (c ∷ cs) = ap suc (phases-count (p + 1) cs)

ok_some : (qs : Pairs) (d : ℕ) → Ok (Item.map qs) d → OkField (some_map qs) d
unfolding some_map
ok_some Pairs.empty d o = tt
ok_some (Pairs.pair k i ps) d o = o

ok_row : (r : Row) (d : ℕ) (cs : List Cell) → length cs < 2 ^ 64 → cells_fit (range_of r.2) cs ≡ true → OkField (row_item r cs) (suc d)
unfolding row_item
ok_row r d cs l h = go (eqb r.1 1)
  where
    go : (b : Bool) → OkField (cond b (first_item cs) (some_map (present (phase_fields 0 cs)))) (suc d)
    go true = ok_first r.2 (suc d) cs h
    go false =
        ok_some (present (phase_fields 0 cs)) (suc d)
        (ok_map (phase_fields 0 cs) d (omega (arith, phases-count 0 cs)) (phases-ascend 0 cs) (ok_phases r.2 d 0 cs (omega arith) h))

pub take_short : (n : ℕ) (cs : List Cell) → length (take n cs) ≤ n
take_short zero cs = omega arith
take_short (suc n) [] = omega arith
take_short (suc n) (c ∷ cs) = let r = take_short n cs in omega arith

ok_rows : (rs : List Row) (d b : ℕ) (cs : List Cell) → Rising rs b → rows_fit rs cs ≡ true → OkFields (fields_of rs cs) (suc d)
unfolding fields_of rows_fit
ok_rows [] d b cs g h = tt
ok_rows (r ∷ rs) d b cs g h =
    let mine = cells_fit (range_of r.2) (take r.1 cs) in
    let others = rows_fit rs (drop r.1 cs) in (
      g.1,
      ok_row r d (take r.1 cs) (omega (arith, take_short r.1 cs, g.2)) (and_left mine others h),
      ok_rows rs d (r.0 + 1) (drop r.1 cs) g.3 (and_right mine others h),
    )

pub fields_count : (rs : List Row) (cs : List Cell) → length (fields_of rs cs) ≡ length rs
unfolding fields_of
fields_count [] cs = refl
fields_count (r ∷ rs) cs = ap suc (fields_count rs (drop r.1 cs))

pub ok_table : (rs : List Row) (d : ℕ) (cs : List Cell) → length rs < 2 ^ 64 → Rising rs 0 → rows_fit rs cs ≡ true → Ok (Item.map (present (fields_of rs cs))) (suc (suc d))
ok_table rs d cs l g h = ok_map (fields_of rs cs) (suc d) (omega (arith, fields_count rs cs)) (fields_ascend rs cs 0 g) (ok_rows rs d 0 cs g h)
