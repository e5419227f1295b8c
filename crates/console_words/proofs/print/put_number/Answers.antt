-- The number, then the newline.
use mathlib.Core.Path.{refl}
use Rattle.text.proofs.Pieces.{all_to_do, two-done, all_done}
use Rattle.console_words.specs.Answers.{number_pieces}
use Rattle.console_words.proofs.print.put_number.Goals as goal

pub returns : goal.returns
unfolding number_pieces
returns c =
    let w = two-done _ _ _ _ _ _ _ _ _ _ _ _ (all_to_do c.args.out.now c.args.at (number_pieces c.args.number)) (c.put_decimal-p.ensures.value, c.put_decimal-p.ensures.out_after) (c.put_end.ensures.value, c.put_end.ensures.out_after) in
    let both =
    all_done _ _ _ _ _ _ w refl in
    record { value = both.0; out_after = both.1 }
