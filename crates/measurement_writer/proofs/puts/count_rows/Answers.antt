-- What is counted and what is left make the whole.
use mathlib.Core.Path.{ap, ◌∙◌}
use mathlib.Core.List.{List}
use native.Mathlib.Omega.{arith}
use lib.ListN.{drop}
use Rattle.wire_cbor.specs.Item.{count_pairs}
use Rattle.wire_fields.specs.Fields.{present}
use Rattle.measurement_table.specs.Table.{rows}
use Rattle.measurement_table.specs.Cells.{Cell, fields_of}
use Rattle.measurement_writer.proofs.FitWalk.{row-shaped, row_next, places-next, places-start, held_by, held_all}
use Rattle.measurement_writer.proofs.Walk.{count_small, count-rows_more, count-rows_end}
use Rattle.measurement_writer.proofs.puts.count_rows.Goals as goal

pub loop-i-init : goal.loop-i-init
loop-i-init c = (
  omega arith,
  places-start,
  omega arith,
  omega
      (arith, ap (λ (l : List Cell). count_pairs (present (fields_of rows l))) (held_all c.args.words.now)),
)

pub count_row-r-requires : goal.count_row-r-requires
count_row-r-requires c = (
  omega (arith, places-next _ _ c.loop-i-test.true c.row_at-row.ensures),
  row-shaped _ _ c.loop-i-test.true
      c.row_at-row.ensures,
)

pub loop-i-preserved : goal.loop-i-preserved
loop-i-preserved c = (
  omega arith,
  omega (arith, places-next _ _ c.loop-i-test.true c.row_at-row.ensures),
  omega (arith, count_small _ _ _ c.count_row-r.ensures),
  count-rows_more _ _ _ _ (row_next _ _ c.loop-i-test.true c.row_at-row.ensures) _ _ _ c.count_row-r.ensures ∙ c.loop-i.invariant.3,
)

pub returns : goal.returns
returns c =
    record {
      value = omega (
        arith,
        c.loop-i.invariant.3,
        count-rows_end c.loop-i.i (omega arith)
            (held_by c.args.words.now (drop c.loop-i.i rows) c.loop-i.place),
      );
      upper_bound = omega arith;
    }
