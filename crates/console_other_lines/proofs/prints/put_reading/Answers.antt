-- The four pieces, one behind the other.
use mir.Val.{SFits}
use mir.Syntax.{w64}
use mir.Facts.{to_z-of_z}
use mathlib.Core.Path.{refl}
use Rattle.text.proofs.Pieces.{all_to_do, two-done, all_done}
use Rattle.console_other_lines.specs.Lines.{reading_pieces}
use borrow.Author.Rules.{rules}
use Rattle.console_other_lines.proofs.prints.put_reading.Goals as goal

pub returns : goal.returns
unfolding reading_pieces
returns c =
    let fits : SFits w64 c.read_words-told.result.seconds = search rules in
    let told = c.read_words-told.ensures.value in
    let whole = reading_pieces c.args.front.now c.args.tick in
    let v =
    two-done _ _ _ _ _ _ _ _ _ _ _ _ (all_to_do c.args.out.now c.args.at whole)
    (rw told at c.put_decimal-p.ensures.value, rw told at c.put_decimal-p.ensures.out_after)
    (c.put_byte-q.ensures.value, c.put_byte-q.ensures.out_after) in
    let w =
    two-done _ _ _ _ _ _ _ _ _ _ _ _ v
    (rw told at (rw (to_z-of_z fits) at c.put_signed-r.ensures.value), rw told at (rw (to_z-of_z fits) at c.put_signed-r.ensures.out_after))
    (c.put_end.ensures.value, c.put_end.ensures.out_after) in
    let z = all_done _ _ _ _ _ _ w refl in
    record { value = z.0; out_after = z.1; front_after = c.read_words-told.ensures.words_after }
