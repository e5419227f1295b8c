-- The three pieces, one behind the other.
use mathlib.Core.Path.{refl}
use Rattle.text.proofs.Pieces.{all_to_do, one_done, two-done, all_done}
use Rattle.rescue_walk.specs.Lines.{refusal_pieces}
use Rattle.rescue_walk.proofs.report_lines.put_refusal.Goals as goal

pub returns : goal.returns
unfolding refusal_pieces
returns c =
    let v = two-done _ _ _ _ _ _ _ _ _ _ _ _ (all_to_do c.args.out.now c.args.at (refusal_pieces c.args.number))
    (c.put_bytes-p.ensures.value, c.put_bytes-p.ensures.out_after) (c.put_decimal-q.ensures.value, c.put_decimal-q.ensures.out_after) in
    let w = one_done _ _ _ _ _ _ _ _ _ v (c.put_byte.ensures.value, c.put_byte.ensures.out_after) in
    let both =
    all_done _ _ _ _ _ _ w refl in
    record { value = both.0; out_after = both.1 }
