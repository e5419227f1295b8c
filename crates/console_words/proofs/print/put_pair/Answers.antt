-- The four pieces, one behind the other.
use mathlib.Core.Path.{refl}
use Rattle.text.proofs.Pieces.{all_to_do, two-done, all_done}
use Rattle.console_words.specs.Answers.{pair_pieces}
use Rattle.console_words.proofs.print.put_pair.Goals as goal

pub returns : goal.returns
unfolding pair_pieces
returns c =
    let v = two-done _ _ _ _ _ _ _ _ _ _ _ _ (all_to_do c.args.out.now c.args.at (pair_pieces c.args.group c.args.number))
    (c.put_byte-p.ensures.value, c.put_byte-p.ensures.out_after) (c.put_decimal-q.ensures.value, c.put_decimal-q.ensures.out_after) in
    let w = two-done _ _ _ _ _ _ _ _ _ _ _ _ v (c.put_byte-r.ensures.value, c.put_byte-r.ensures.out_after) (c.put_decimal.ensures.value, c.put_decimal.ensures.out_after) in
    let both =
    all_done _ _ _ _ _ _ w refl in
    record { value = both.0; out_after = both.1 }
