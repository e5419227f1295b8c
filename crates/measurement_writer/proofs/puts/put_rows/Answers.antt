-- What is left to put makes the whole.
use mathlib.Core.Path.{refl, ap, sym}
use mathlib.Core.List.{List}
use native.Mathlib.Omega.{arith}
use Rattle.wire_cbor.specs.Item.{encode_pairs}
use Rattle.wire_fields.specs.Fields.{present}
use Rattle.measurement_table.specs.Table.{rows}
use Rattle.measurement_table.specs.Cells.{Cell, fields_of}
use Rattle.measurement_writer.proofs.FitWalk.{row-shaped, row_next, places-next, places-start, held_all}
use Rattle.measurement_writer.proofs.Walk.{rows-bytes, rows-bytes_end}
use Rattle.measurement_writer.proofs.Short.{shorts_none, shorts_same, shorts_more, shorts_room}
use borrow.Author.Rules.{rules}
use Rattle.measurement_writer.proofs.puts.put_rows.Goals as goal

pub loop-i-init : goal.loop-i-init
loop-i-init c = (
  omega arith,
  places-start,
  refl,
  λ t q h. shorts_room (omega (arith, places-start))
      (shorts_same (ap (λ (l : List Cell). encode_pairs (present (fields_of rows l))) (held_all _)) h),
)

pub put_row-p-requires : goal.put_row-p-requires
put_row-p-requires c = (
  omega (arith, places-next _ _ c.loop-i-test.true c.row_at-row.ensures),
  row-shaped _ _ c.loop-i-test.true
      c.row_at-row.ensures,
)

pub loop-i-preserved : goal.loop-i-preserved
loop-i-preserved c = (
  omega arith,
  omega (arith, places-next _ _ c.loop-i-test.true c.row_at-row.ensures),
  search rules,
  λ t q h.
      let n = row_next _ _ c.loop-i-test.true c.row_at-row.ensures in
      let m = places-next _ _ c.loop-i-test.true c.row_at-row.ensures in
      c.loop-i.invariant.3 t q (shorts_room (omega (arith, m)) (shorts_same (sym (rows-bytes _ _ _ _ n _)) (shorts_more c.put_row-p.ensures h))),
)

pub returns : goal.returns
returns c =
    c.loop-i.invariant.3 _ _ (shorts_same (sym (rows-bytes_end c.loop-i.i (omega arith) _)) (shorts_none _ _ _))
