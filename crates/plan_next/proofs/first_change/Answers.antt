-- Each turn looks at the next due second: up to it no row stands.
use mathlib.Core.Path.{ap}
use native.Mathlib.Omega.{arith}
use Rattle.device_store.proofs.Tests.{via}
use Rattle.plan_next.specs.Next.{row_numbers}
use Rattle.plan_next.proofs.Seek.{seeking_start, seeking_end, seeking_later, seeking_same, seeking_found}
use Rattle.plan_next.proofs.first_change.Goals as goal

pub loop-v-init : goal.loop-v-init
loop-v-init c = seeking_start c.args.d.now c.args.t c.view_at-v.ensures

pub returns-then-not-alike : goal.returns-then-not-alike
unfolding row_numbers
returns-then-not-alike c =
    rw (c.row_of.ensures, ← seeking_found c.loop-v.invariant c.view_at-w.ensures (omega arith) (via c.alike.ensures c.if-not-alike.true))

pub loop-v-smaller : goal.loop-v-smaller
loop-v-smaller c = omega (arith, seeking_later c.loop-v.invariant c.view_at-w.ensures (omega arith))

pub loop-v-preserved : goal.loop-v-preserved
loop-v-preserved c =
    seeking_same c.loop-v.invariant c.view_at-w.ensures (omega arith) (via c.alike.ensures c.if-not-alike.false)

pub returns : goal.returns
unfolding row_numbers
returns c = ap row_numbers (seeking_end c.loop-v.invariant (omega arith))
