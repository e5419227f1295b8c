-- Each turn looks at the next due second: what is counted and what is left make the plan, as in the walk that writes.
use native.Mathlib.Omega.{arith}
use Rattle.device_store.proofs.Tests.{via}
use Rattle.plan.proofs.Find.{counting_start, counting_end, counting_later, counting_room, counting_same, counting_new}
use Rattle.plan.proofs.counts.count.Goals as goal

pub loop-v-init : goal.loop-v-init
loop-v-init c = counting_start c.args.d.now c.args.t c.view_at-v.ensures

pub overflow_add-n : goal.overflow_add-n
overflow_add-n c =
    omega (
      arith,
      (counting_room c.loop-v.invariant c.view_at-w.ensures (omega arith)
          (via c.alike.ensures c.if-not-alike.true)).1,
    )

pub loop-v-smaller-then-not-alike : goal.loop-v-smaller-then-not-alike
loop-v-smaller-then-not-alike c =
    omega (arith, counting_later c.loop-v.invariant c.view_at-w.ensures (omega arith))

pub loop-v-preserved-then-not-alike : goal.loop-v-preserved-then-not-alike
loop-v-preserved-then-not-alike c =
    counting_new c.loop-v.invariant c.view_at-w.ensures (omega arith) (via c.alike.ensures c.if-not-alike.true)

pub loop-v-smaller : goal.loop-v-smaller
loop-v-smaller c =
    omega (arith, counting_later c.loop-v.invariant c.view_at-w.ensures (omega arith))

pub loop-v-preserved : goal.loop-v-preserved
loop-v-preserved c =
    counting_same c.loop-v.invariant c.view_at-w.ensures (omega arith) (via c.alike.ensures c.if-not-alike.false)

pub returns : goal.returns
returns c = counting_end c.loop-v.invariant (omega arith)
