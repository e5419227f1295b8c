-- What was counted and what is left make up the whole.
use mathlib.Core.Path.{◌≡◌}
use native.Mathlib.Omega.{arith}
use borrow.Author.Rules.{rules}
use Rattle.rescue_walk.proofs.Loops.{counting_none, counting_next, counting_all}
use Rattle.rescue_walk.proofs.steps.count.Goals as goal

pub loop-c-init : goal.loop-c-init
loop-c-init c =
    let e : c.default-c.result ≡ record { at = 0; kept = 0; runs = 0 } = search rules in
    rw e (counting_none c.args.s.now)

pub loop-c-smaller : goal.loop-c-smaller
loop-c-smaller c =
    let k = counting_next c.args.s.now c.loop-c.c _ c.loop-c.invariant c.loop-c-test.true c.next-c.ensures in omega (arith, k.1, k.2)

pub loop-c-preserved : goal.loop-c-preserved
loop-c-preserved c =
    (counting_next c.args.s.now c.loop-c.c _ c.loop-c.invariant c.loop-c-test.true c.next-c.ensures).0

pub returns : goal.returns
returns c =
    record {
      value = counting_all c.args.s.now c.loop-c.c c.loop-c.invariant c.loop-c-test.false;
      runs_in_bounds = (omega (arith, c.loop-c.invariant.reached.few_runs, c.loop-c.invariant.reached.within));
    }
