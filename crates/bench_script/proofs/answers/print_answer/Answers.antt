-- The number, the newline and the rows are put one behind the other.
use mathlib.Core.Path.{◌∙◌}
use Rattle.bench_script.specs.Answers.{answer_pieces}
use Rattle.text.proofs.Pieces.{all_to_do, two-done}
use Rattle.bench_script.proofs.answers.print_answer.Goals as goal

pub returns : goal.returns
unfolding answer_pieces
returns c =
    let w = two-done _ _ _ _ _ _ _ _ _ _ _ _ (all_to_do c.args.out.now c.args.at
    (answer_pieces c.args.number c.args.count c.args.rows.now)) (c.put_decimal-p.ensures.value, c.put_decimal-p.ensures.out_after) (
      c.put_byte-q.ensures.value,
      c.put_byte-q.ensures.out_after,
    ) in
    record {
      value = c.put_rows.ensures.value ∙ w.past;
      out_after = c.put_rows.ensures.out_after ∙ w.list;
    }
