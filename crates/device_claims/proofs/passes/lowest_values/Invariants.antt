-- Each turn meets one slot's limits, from the nearest end known before.
use Rattle.device_store.specs.Quantities.{lowest_values, low_at}
use Rattle.device_claims.specs.Pass.{LowestValuesMet}
use Rattle.device_claims.proofs.Claims.{low_next, Passed}
use Rattle.device_claims.proofs.passes.lowest_values.Given as goal

abbrev pub invariant-loop-i : goal.invariant-loop-i
invariant-loop-i g l = Passed LowestValuesMet low_next low_at lowest_values l.next l.t (g.S.ReadSlots.zones l.s) l.i l.g
