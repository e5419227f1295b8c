-- The four pieces, one behind the other.
use mathlib.Core.Path.{refl}
use Rattle.text.proofs.Pieces.{all_to_do, two-done, all_done}
use Rattle.rescue_walk.specs.Lines.{line_pieces}
use Rattle.rescue_walk.proofs.report_lines.put_line.Goals as goal

pub returns : goal.returns
unfolding line_pieces
returns c =
    let v = two-done _ _ _ _ _ _ _ _ _ _ _ _ (all_to_do c.args.out.now c.args.at (line_pieces c.args.offset c.args.length))
    (c.put_decimal-p.ensures.value, c.put_decimal-p.ensures.out_after) (c.put_byte-q.ensures.value, c.put_byte-q.ensures.out_after) in
    let w = two-done _ _ _ _ _ _ _ _ _ _ _ _ v (c.put_decimal-r.ensures.value, c.put_decimal-r.ensures.out_after) (c.put_byte.ensures.value, c.put_byte.ensures.out_after) in
    let both =
    all_done _ _ _ _ _ _ w refl in
    record { value = both.0; out_after = both.1 }
