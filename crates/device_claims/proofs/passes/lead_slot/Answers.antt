-- A free slot claims nothing; each turn reads one setpoint of a joined zone, and its precedence, which is a word.
use mathlib.Core.Bool.{true}
use mathlib.Core.Path.{◌≡◌, refl, sym, ◌∙◌}
use native.Mathlib.Omega.{arith}
use borrow.Author.Tests.{eq-eqb, ne_eqb}
use lib.ListN.{get_or}
use Rattle.device_store.specs.Quantities.{leading_setpoints}
use Rattle.device_store.specs.Zones.{free_zone, is_joined}
use Rattle.device_store.specs.declared.Zone.{Zone}
use Rattle.device_claims.specs.Pass.{turns, leading_setpoints_with}
use Rattle.device_claims.proofs.Claims.{free-leading_setpoints, leading_setpoints-add, leading_setpoints-end, leading_setpoints-turn}
use Rattle.device_claims.proofs.passes.lead_slot.Goals as goal

pub returns-then-id-eq0 : goal.returns-then-id-eq0
unfolding is_joined
returns-then-id-eq0 g c =
    let both =
    free-leading_setpoints _ _ (rw (eq-eqb _ _ (sym c.id.ensures ∙ c.if-id-eq0.true))) _ in
    record { adds = both.0; next_value = both.1 }

pub loop-k-init : goal.loop-k-init
unfolding turns
loop-k-init g c = (refl, λ h. absurd (omega arith))

pub loop-k-preserved : goal.loop-k-preserved
loop-k-preserved g c =
    let x : Zone = get_or (g.S.ReadSlots.zones c.args.s.now) c.args.i free_zone in (
      leading_setpoints-turn c.args.t x c.loop-k.k c.args.start c.loop-k.g c.lead_with-g.result c.held.result c.precedence.result
          c.loop-k.invariant.0 c.held.ensures
          c.precedence.ensures c.lead_with-g.ensures.value,
      λ h. rw c.precedence.ensures at c.lead_with-g.ensures.precedence_le_most,
    )

pub returns : goal.returns
unfolding is_joined
returns g c =
    let x : Zone = get_or (g.S.ReadSlots.zones c.args.s.now) c.args.i free_zone in
    let e : c.loop-k.k ≡ leading_setpoints = omega arith in
    let joined : is_joined x ≡ true = rw (ne_eqb _ _ (λ z. c.if-id-eq0.false (c.id.ensures ∙ z))) in
    let is : c.loop-k.g ≡ leading_setpoints_with c.args.t x leading_setpoints c.args.start = rw e at c.loop-k.invariant.0 in
    rw is
    (record {
      adds = leading_setpoints-add c.args.t x joined c.args.start (c.loop-k.invariant.1 (omega arith));
      next_value = leading_setpoints-end c.args.t x joined c.args.start;
    })
