-- Each turn meets one slot's setpoints, from the nearest end known before.
use mathlib.Core.Path.{refl}
use native.Mathlib.Omega.{arith}
use Rattle.device_store.specs.Quantities.{leading_setpoints, lead_at}
use Rattle.device_claims.specs.Pass.{LeadingSetpointsMet}
use Rattle.device_claims.proofs.Claims.{lead_next, leading_setpoints-along, pass-none, pass-turn, pass-end}
use Rattle.device_claims.proofs.passes.leading_setpoints.Goals as goal

pub loop-i-init : goal.loop-i-init
loop-i-init g c =
    pass-none LeadingSetpointsMet lead_next lead_at leading_setpoints c.args.next c.args.t (g.S.ReadSlots.zones c.args.s.now) _ c.no_leading_setpoints-g.ensures.leading_setpoints_met
    c.no_leading_setpoints-g.ensures.next_value

pub loop-i-preserved : goal.loop-i-preserved
loop-i-preserved g c =
    pass-turn LeadingSetpointsMet lead_next lead_at leading_setpoints c.args.next c.args.t (g.S.ReadSlots.zones c.args.s.now) c.loop-i.i leading_setpoints-along _ _ _
    (omega (arith, g.met.S.ReadSlots.all_slots c.args.s.now)) refl c.loop-i.invariant c.lead_slot-g.ensures.adds c.lead_slot-g.ensures.next_value

pub returns : goal.returns
returns g c =
    let both =
    pass-end LeadingSetpointsMet lead_next lead_at leading_setpoints c.args.next c.args.t (g.S.ReadSlots.zones c.args.s.now) c.loop-i.i _
    (omega (arith, g.met.S.ReadSlots.all_slots c.args.s.now)) c.loop-i.invariant in
    record { leading_setpoints_met = both.0; next_value = both.1 }
