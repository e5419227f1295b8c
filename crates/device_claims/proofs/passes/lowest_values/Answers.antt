-- Each turn meets one slot's limits, from the nearest end known before.
use mathlib.Core.Path.{refl}
use native.Mathlib.Omega.{arith}
use Rattle.device_store.specs.Quantities.{lowest_values, low_at}
use Rattle.device_claims.specs.Pass.{LowestValuesMet}
use Rattle.device_claims.proofs.Claims.{low_next, lowest_values-along, pass-none, pass-turn, pass-end}
use Rattle.device_claims.proofs.passes.lowest_values.Goals as goal

pub loop-i-init : goal.loop-i-init
loop-i-init g c =
    pass-none LowestValuesMet low_next low_at lowest_values c.args.next c.args.t (g.S.ReadSlots.zones c.args.s.now) _ c.no_lowest_values-g.ensures.lowest_values_met
    c.no_lowest_values-g.ensures.next_value

pub loop-i-preserved : goal.loop-i-preserved
loop-i-preserved g c =
    pass-turn LowestValuesMet low_next low_at lowest_values c.args.next c.args.t (g.S.ReadSlots.zones c.args.s.now) c.loop-i.i lowest_values-along _ _ _
    (omega (arith, g.met.S.ReadSlots.all_slots c.args.s.now)) refl c.loop-i.invariant c.low_slot-g.ensures.adds c.low_slot-g.ensures.next_value

pub returns : goal.returns
returns g c =
    let both =
    pass-end LowestValuesMet low_next low_at lowest_values c.args.next c.args.t (g.S.ReadSlots.zones c.args.s.now) c.loop-i.i _
    (omega (arith, g.met.S.ReadSlots.all_slots c.args.s.now)) c.loop-i.invariant in
    record { lowest_values_met = both.0; next_value = both.1 }
