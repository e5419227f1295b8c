-- The longest payload: no head is longer than that of the largest number of its range. Assumes nothing.
use Prim.Native.Nat.{ℕ, zero, suc, ◌+◌, ◌≤◌}
use mathlib.Core.Path.{◌≡◌, refl}
use mathlib.Core.Bool.{Bool, true, false, cond}
use mathlib.Core.List.{List, [], ◌∷◌}
use mathlib.Core.Option.{some, none}
use native.Mathlib.Omega.{arith}
use lib.ListN.{length, take, drop, length-append}
use lib.Dec.{eqb}
use lib.IntN.{pos, negsuc}
use borrow.Author.Tests.{ltb-true, leb-true}
use Rattle.wire_bytes.specs.Bytes.{bytes_of}
use Rattle.wire_heads.specs.Head.{info_of, width_of, head_len, head_bytes}
use Rattle.wire_heads.proofs.Widths.{head-length, len_positive}
use Rattle.wire_cbor.specs.Item.{Item, Pairs, encode, encode_pairs, count_pairs}
use Rattle.wire_fields.specs.Fields.{Fields, present}
use Rattle.wire_fields.specs.Ranges.{within}
use Rattle.wire_fields.specs.Puts.{field_bytes}
use Rattle.wire_fields.specs.declared.ranges.Range.{Range}
use Rattle.wire_fields.proofs.Joined.{and_left, and_right}
use Rattle.wire_fields.proofs.Added.{map-bytes, fields_none, fields_more}
use Rattle.wire_laws.proofs.Maps.{count-fields}
use Rattle.wire_laws.proofs.Shorter.{no_longer}
use Rattle.measurement_table.specs.Rows.{ranges}
use Rattle.measurement_table.specs.Table.{rows, range_of}
use Rattle.measurement_table.specs.Cells.{Cell, cell_item, phase_fields, some_map, first_item, row_item, fields_of, cell_fits, cells_fit, rows_fit}
use Rattle.measurement_table.specs.Payload.{item_of}
use Rattle.measurement_table.specs.declared.attributes.Row.{Row}
use Rattle.measurement_table.proofs.Order.{table-long}
use Rattle.measurement_laws.specs.Longest.{PayloadLongest, PayloadReached}
use Rattle.measurement_laws.proofs.WellFormed.{take_short, phases-count, fields_count}

-- HOW LONG, by the ranges
-- no head of a range's numbers has a larger argument
abbrev top : Range → ℕ
top g = g.high + g.below

abbrev phases_most : Range → ℕ → ℕ → ℕ
phases_most g p zero = 0
phases_most g p (suc w) = head_len p + head_len (top g) + phases_most g (p + 1) w

abbrev row_most : Row → ℕ
row_most r = head_len r.0 + cond (eqb r.1 1) (head_len (top (range_of r.2))) (head_len r.1 + phases_most (range_of r.2) 0 r.1)

abbrev rows_most : List Row → ℕ
rows_most [] = 0
rows_most (r ∷ rs) = row_most r + rows_most rs

cell-long : (g : Range) (k : ℕ) (c : Cell) → cell_fits g c ≡ true → length (field_bytes k (cell_item c)) ≤ head_len k + head_len (top g)
unfolding cell_item cell_fits within field_bytes encode
cell-long g k none h = omega arith
cell-long g k (some (pos n)) h =
    let l = no_longer n (top g) (omega (arith, leb-true n g.high h)) in
    rw length-append (omega (arith, head-length 0 k, head-length 0 n))
cell-long g k (some (negsuc n)) h =
    let l = no_longer n (top g) (omega (arith, ltb-true n g.below h)) in
    rw length-append (omega (arith, head-length 0 k, head-length 1 n))

phases-long : (g : Range) (p w : ℕ) (cs : List Cell) → length cs ≤ w → cells_fit g cs ≡ true → length (encode_pairs (present (phase_fields p cs))) ≤ phases_most g p w
unfolding phase_fields cells_fit
phases-long g p w [] l h = rw fields_none (omega arith)
phases-long g p zero (c ∷ cs) l h = absurd (omega arith)
phases-long g p (suc w) (c ∷ cs) l h =
    let a = cell-long g p c (and_left (cell_fits g c) (cells_fit g cs) h) in
    let b = phases-long g (p + 1) w cs (omega arith) (and_right (cell_fits g c) (cells_fit g cs) h) in
    rw (fields_more p (cell_item c) (phase_fields (p + 1) cs), length-append) (omega arith)

first-long : (g : Range) (k : ℕ) (cs : List Cell) → cells_fit g cs ≡ true → length (field_bytes k (first_item cs)) ≤ head_len k + head_len (top g)
unfolding first_item cells_fit field_bytes
first-long g k [] h = omega arith
first-long g k (c ∷ cs) h = cell-long g k c (and_left (cell_fits g c) (cells_fit g cs) h)

map-long : (fs : Fields) (n m : ℕ) → length fs ≤ n → length (encode_pairs (present fs)) ≤ m → length (encode (Item.map (present fs))) ≤ head_len n + m
map-long fs n m few h =
    let k : ℕ = count_pairs (present fs) in
    let l = no_longer k n (omega (arith, count-fields fs)) in
    rw (map-bytes fs, length-append) (omega (arith, head-length 5 k))

some-long : (k n : ℕ) (qs : Pairs) → length (encode (Item.map qs)) ≤ n → length (field_bytes k (some_map qs)) ≤ head_len k + n
unfolding some_map field_bytes
some-long k n Pairs.empty h = omega arith
some-long k n (Pairs.pair j i ps) h = rw length-append (omega (arith, head-length 0 k))

row-long : (r : Row) (cs : List Cell) → length cs ≤ r.1 → cells_fit (range_of r.2) cs ≡ true → length (field_bytes r.0 (row_item r cs)) ≤ row_most r
unfolding row_item
row-long r cs l h = go (eqb r.1 1)
  where
    go : (b : Bool) → length (field_bytes r.0 (cond b (first_item cs) (some_map (present (phase_fields 0 cs)))))
        ≤ head_len r.0 + cond b (head_len (top (range_of r.2))) (head_len r.1 + phases_most (range_of r.2) 0 r.1)
    go true = first-long (range_of r.2) r.0 cs h
    go false =
        some-long r.0 _ (present (phase_fields 0 cs))
        (map-long (phase_fields 0 cs) r.1 (phases_most (range_of r.2) 0 r.1) (omega (arith, phases-count 0 cs)) (phases-long (range_of r.2) 0 r.1 cs l h))

rows_long : (rs : List Row) (cs : List Cell) → rows_fit rs cs ≡ true → length (encode_pairs (present (fields_of rs cs))) ≤ rows_most rs
unfolding fields_of rows_fit
rows_long [] cs h = rw fields_none (omega arith)
rows_long (r ∷ rs) cs h =
    let mine = cells_fit (range_of r.2) (take r.1 cs) in
    let others = rows_fit rs (drop r.1 cs) in
    let a = row-long r (take r.1 cs) (take_short r.1 cs) (and_left mine others h) in
    let b = rows_long rs (drop r.1 cs) (and_right mine others h) in
    rw (fields_more r.0 (row_item r (take r.1 cs)) (fields_of rs (drop r.1 cs)), length-append) (omega arith)

rows-most : head_len 24 + rows_most rows ≡ 326
unfolding rows range_of ranges head_len info_of width_of
rows-most = refl

pub payload_longest : PayloadLongest
unfolding item_of
payload_longest cs h =
    let fs : Fields = fields_of rows cs in
    let k : ℕ = count_pairs (present fs) in
    let l : length (encode (Item.map (present fs))) ≡ length (head_bytes 5 k) + length (encode_pairs (present fs)) = rw (map-bytes fs, length-append) refl in
    let m = map-long fs 24 (rows_most rows) (omega (arith, fields_count rows cs, table-long.0)) (rows_long rows cs h) in
    (omega (arith, l, head-length 5 k, len_positive k), omega (arith, m, rows-most))

pub payload_reached : PayloadReached
unfolding item_of encode head_bytes bytes_of width_of info_of count_pairs encode_pairs present rows range_of ranges cell_item phase_fields some_map first_item row_item
    fields_of cell_fits cells_fit rows_fit within
payload_reached =
    let int64 : Cell = some (pos 9223372036854775807) in
    let uint64 : Cell = some (pos 18446744073709551615) in
    let uint32 : Cell = some (pos 4294967295) in (
      int64 ∷ int64 ∷ uint64 ∷ int64 ∷ int64 ∷ int64 ∷ int64 ∷ int64 ∷ int64 ∷ int64 ∷ int64 ∷ int64 ∷ int64 ∷ int64 ∷ int64 ∷ uint32 ∷ uint32 ∷ uint32
          ∷ uint32 ∷ uint32 ∷ uint32 ∷ uint32 ∷ some (pos 1000) ∷ uint64 ∷ uint64 ∷ int64 ∷ int64 ∷ uint32 ∷ uint64 ∷ uint64 ∷ some (pos 100) ∷ some (pos 100)
          ∷ uint64 ∷ uint64 ∷ uint32 ∷ some (pos 32767) ∷ [],
      refl,
      refl,
      refl,
    )
