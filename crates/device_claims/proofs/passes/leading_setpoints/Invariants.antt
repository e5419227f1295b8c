-- Each turn meets one slot's setpoints, from the nearest end known before.
use Rattle.device_store.specs.Quantities.{leading_setpoints, lead_at}
use Rattle.device_claims.specs.Pass.{LeadingSetpointsMet}
use Rattle.device_claims.proofs.Claims.{lead_next, Passed}
use Rattle.device_claims.proofs.passes.leading_setpoints.Given as goal

abbrev pub invariant-loop-i : goal.invariant-loop-i
invariant-loop-i g l = Passed LeadingSetpointsMet lead_next lead_at leading_setpoints l.next l.t (g.S.ReadSlots.zones l.s) l.i l.g
