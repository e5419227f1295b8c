-- The holders before q are those of the definition; a turn adds the next.
use Prim.Native.Nat.{◌+◌}
use mathlib.Core.Path.{refl}
use native.Mathlib.Omega.{arith}
use borrow.Author.Rules.{rules}
use mir.Syntax.{w64}
use mir.Val.{SFits}
use lib.IntN.{pos}
use lib.ListN.{get_or, length-set}
use Rattle.device_store.specs.Zones.{up_to}
use Rattle.device_store.proofs.Folds.{fill_turn}
use Rattle.device_holds.specs.Holds.{Situation, situation_of}
use Rattle.device_holders.specs.Holders.{holder_at}
use Rattle.device_holders.proofs.Signs.{holder_turn}
use Rattle.device_holders.proofs.holders_at.Goals as goal

pub loop-q-init : goal.loop-q-init
unfolding up_to
loop-q-init c = (refl, refl)

pub loop-q-preserved : goal.loop-q-preserved
loop-q-preserved c =
    let s : Situation = situation_of c.args.d.now in
    let f : SFits w64 (get_or c.values_at-vs.result (c.loop-q.q + 1) (pos 0)) = search rules in
    let h = holder_turn s c.args.t c.loop-q.q _ _ c.values_at-vs.ensures (omega arith) refl f.sfits _ c.holder_of-h.ensures in (
      simp length-set c.loop-q.invariant.0,
      fill_turn (holder_at s c.args.t) c.loop-q.hs c.loop-q.q _ (omega arith) c.loop-q.invariant.1 h,
    )
