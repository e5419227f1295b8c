-- What was put and what is left of the list from each number on make the whole.
use mir.Val.{SFits}
use mir.Syntax.{w64}
use mir.Facts.{to_z-of_z}
use lib.IntN.{pos}
use lib.ListN.{get_or, take}
use Rattle.text.proofs.Pieces.{all_to_do, all_done, two-done}
use Rattle.console_words.proofs.Written.{list_shown, list_next, list_over}
use borrow.Author.Rules.{rules}
use Rattle.console_words.proofs.print.put_list.Goals as goal

pub loop-x-init : goal.loop-x-init
loop-x-init c = rw (list_shown c.args.list.now c.args.n c.min.result c.min.ensures) (all_to_do c.args.out.now c.args.at _)

pub loop-x-preserved : goal.loop-x-preserved
loop-x-preserved c =
    let f : SFits w64 (get_or (take c.min.result c.args.list.now) c.loop-x.x-index (pos 0)) = search rules in
    two-done _ _ _ _ _ _ _ _ _ _ _ _
    (rw (list_next (take c.min.result c.args.list.now) c.loop-x.x-index c.loop-x-test.true) at c.loop-x.invariant)
    (c.put_byte-p.ensures.value, c.put_byte-p.ensures.out_after) (rw (to_z-of_z f) at c.put_signed-p.ensures.value, rw (to_z-of_z f) at c.put_signed-p.ensures.out_after)

pub returns : goal.returns
returns c =
    let both =
    all_done _ _ _ _ _ _ c.loop-x.invariant (list_over _ _ c.loop-x-test.false) in
    record { value = both.0; out_after = both.1 }
