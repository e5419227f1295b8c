-- Each turn meets one candidate more: what is met so far is the fold over those.
use Prim.Native.Nat.{◌+◌}
use mathlib.Core.Path.{◌≡◌, refl}
use native.Mathlib.Omega.{arith}
use Rattle.device_store.specs.Zones.{up_to}
use Rattle.device_holds.specs.Holds.{situation_of}
use Rattle.device_holds.specs.Dues.{nearest}
use Rattle.plan_plain.specs.Candidates.{expiries, candidates_of}
use Rattle.plan_plain.proofs.Nearest.{met_more}
use Rattle.plan_plain.proofs.candidates.next_after.Goals as goal

pub loop-k-init : goal.loop-k-init
unfolding up_to
loop-k-init c = refl

pub loop-k-preserved : goal.loop-k-preserved
loop-k-preserved c =
    met_more (situation_of c.args.d.now) c.args.t c.loop-k.k _ _ _ c.loop-k.invariant c.candidate.ensures c.nearer-best.ensures

pub returns : goal.returns
unfolding candidates_of nearest
returns c = let e : c.loop-k.k ≡ expiries + 1 = omega arith in rw e at c.loop-k.invariant
