-- Each turn looks at the next due second: what is written and what is left make the plan.
use native.Mathlib.Omega.{arith}
use Rattle.device_store.proofs.Tests.{via}
use Rattle.plan.proofs.Find.{finding_start, finding_length, finding_end, counting_later, finding_room, finding_same, finding_new}
use Rattle.plan.proofs.rows.find.Goals as goal

pub loop-v-init : goal.loop-v-init
loop-v-init c = finding_start c.args.d.now c.args.t c.args.out.now c.view_at-v.ensures

pub put_row-requires : goal.put_row-requires
put_row-requires c =
    record {
      row_size_in_bounds = omega (
        arith,
        finding_length c.loop-v.invariant,
        finding_room c.loop-v.invariant c.view_at-w.ensures (omega arith)
            (via c.alike.ensures c.if-not-alike.true),
      );
      t_lt_end = omega arith;
    }

pub loop-v-smaller-then-not-alike : goal.loop-v-smaller-then-not-alike
loop-v-smaller-then-not-alike c =
    omega (arith, counting_later c.loop-v.invariant.counted c.view_at-w.ensures (omega arith))

pub loop-v-preserved-then-not-alike : goal.loop-v-preserved-then-not-alike
loop-v-preserved-then-not-alike c =
    finding_new c.loop-v.invariant c.view_at-w.ensures (omega arith) (via c.alike.ensures c.if-not-alike.true)
    c.put_row.ensures

pub loop-v-smaller : goal.loop-v-smaller
loop-v-smaller c =
    omega (arith, counting_later c.loop-v.invariant.counted c.view_at-w.ensures (omega arith))

pub loop-v-preserved : goal.loop-v-preserved
loop-v-preserved c =
    finding_same c.loop-v.invariant c.view_at-w.ensures (omega arith) (via c.alike.ensures c.if-not-alike.false)

pub returns : goal.returns
returns c =
    let both =
    finding_end c.loop-v.invariant (omega arith) in
    record { value = both.0; out_after = both.1 }
