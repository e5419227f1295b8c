-- The four pieces, one behind the other.
use mathlib.Core.Path.{refl}
use Rattle.text.proofs.Pieces.{all_to_do, two-done, all_done}
use Rattle.console_words.specs.Answers.{bytes_pieces}
use Rattle.console_words.proofs.print.put_bytes.Goals as goal

pub returns : goal.returns
unfolding bytes_pieces
returns c =
    let whole = bytes_pieces c.args.number c.args.bytes.now c.args.n in
    let v = two-done _ _ _ _ _ _ _ _ _ _ _ _ (all_to_do c.args.out.now c.args.at whole) (c.put_decimal-p.ensures.value, c.put_decimal-p.ensures.out_after) (c.put_byte-q.ensures.value, c.put_byte-q.ensures.out_after) in
    let w = two-done _ _ _ _ _ _ _ _ _ _ _ _ v (c.put_hex_or_none-r.ensures.value, c.put_hex_or_none-r.ensures.out_after) (c.put_end.ensures.value, c.put_end.ensures.out_after) in
    let both =
    all_done _ _ _ _ _ _ w refl in
    record { value = both.0; out_after = both.1 }
