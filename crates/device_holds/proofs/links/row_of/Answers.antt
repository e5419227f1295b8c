-- The first zone that is up decides; a joined one is kept in mind.
use Prim.Native.Nat.{◌<◌}
use mathlib.Core.Path.{refl, sym, ◌∙◌}
use native.Mathlib.Omega.{arith}
use lib.ListN.{length}
use Rattle.device_holds.specs.Links.{link_row}
use Rattle.device_holds.proofs.LinkRow.{row_up, row-down, row-free, row-end}
use Rattle.device_holds.proofs.links.row_of.Goals as goal
use Rattle.device_holds.proofs.links.row_of.Goals.{then-id-ne0+else-up, else-id-ne0}

pub loop-i-init : goal.loop-i-init
unfolding link_row
loop-i-init g c = refl

pub returns-then-up : goal.returns-then-up
unfolding link_row
returns-then-up g c =
    row_up _ _ c.loop-i.i c.loop-i.invariant (omega (arith, g.met.S.ReadSlots.all_slots c.args.s.now))
    (λ e. c.if-id-ne0.true (c.id.ensures ∙ e)) (sym c.up.ensures ∙ c.if-up.true)

pub loop-i-preserved : goal.loop-i-preserved
unfolding link_row
loop-i-preserved g c =
    let h : c.loop-i.i < length (g.S.ReadSlots.zones c.args.s.now) = omega (arith, g.met.S.ReadSlots.all_slots c.args.s.now) in
    elim c.if-id-ne0.branch [
      | then-id-ne0+else-up w ↦
          rw w.r-is (row-down _ _ c.loop-i.i c.loop-i.invariant h (λ e. w.if-id-ne0.true (c.id.ensures ∙ e)) (sym w.up.ensures ∙ w.if-up.false))
      | else-id-ne0 w ↦ rw w.r-is (row-free _ _ c.loop-i.i c.loop-i.invariant h (sym c.id.ensures ∙ w.if-id-ne0.false))
    ]

pub returns : goal.returns
unfolding link_row
returns g c = row-end _ _ c.loop-i.i c.loop-i.invariant (omega (arith, g.met.S.ReadSlots.all_slots c.args.s.now))
