-- Each turn shows one quantity, below the bound of its direction.
use mathlib.Core.Path.{◌∙◌}
use native.Mathlib.Omega.{arith}
use mir.Facts.{to_z-of_z}
use mir.Val.{SFits}
use mir.Syntax.{w64}
use borrow.Author.Rules.{rules}
use lib.ListN.{length-set}
use Rattle.device_store.specs.Quantities.{direction_of}
use Rattle.device_table.specs.Leaves.{shown_in}
use Rattle.device_table.proofs.LeafRows.{fill_more, top_small, top_at}
use Rattle.device_table.proofs.leaves.row.Goals as goal

pub shown_below-requires : goal.shown_below-requires
shown_below-requires c =
    rw (c.loop-q.invariant.0, top_at c.args.has (direction_of c.loop-q.q) (omega arith)) (top_small c.args.has (direction_of c.loop-q.q))

pub loop-q-preserved : goal.loop-q-preserved
unfolding shown_in
loop-q-preserved c =
    let f : SFits w64 c.shown_below.result = search rules in (
      c.loop-q.invariant.0,
      simp length-set c.loop-q.invariant.1,
      fill_more (shown_in c.args.has c.args.low c.args.lead) c.loop-q.v c.loop-q.q _ (omega (arith, c.loop-q.invariant.1)) c.loop-q.invariant.2
          (to_z-of_z f ∙ c.shown_below.ensures ∙ rw (c.loop-q.invariant.0, top_at c.args.has (direction_of c.loop-q.q) (omega arith), c.number_of.ensures)),
    )
