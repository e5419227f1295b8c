-- The first i records are written, and the next is at hand; once as many are written as the answer counts, the slice is the one that the contract names.
use Prim.Native.Nat.{◌≤◌}
use mathlib.Core.Path.{◌≡◌, ◌∙◌}
use native.Mathlib.Omega.{arith}
use lib.ListN.{length}
use Rattle.plan_plain.proofs.Fill.{written-slice, none_written, next-written, first-no, next-no}
use Rattle.plan_plain.proofs.plain_plan.Goals as goal

pub loop-i-init : goal.loop-i-init
loop-i-init c = (none_written _ _, c.first_record-r.ensures ∙ first-no _)

pub offset_bounds-rows-i : goal.offset_bounds-rows-i
offset_bounds-rows-i c =
    let fit : c.planned-p.result.count ≤ length c.args.rows.now = rw c.planned-p.ensures (written-slice c.args.d.now c.args.rows.now).1 in
    omega arith

pub bounds-rows-i : goal.bounds-rows-i
bounds-rows-i c =
    let fit : c.planned-p.result.count ≤ length c.args.rows.now = rw c.planned-p.ensures (written-slice c.args.d.now c.args.rows.now).1 in
    omega arith

pub loop-i-preserved : goal.loop-i-preserved
loop-i-preserved c = (
  rw (c.loop-i.invariant.0, c.loop-i.invariant.1) (next-written _ _ _),
  c.next_record-r.ensures ∙ rw c.loop-i.invariant.1 (next-no _ _),
)

pub returns : goal.returns
returns c =
    let all : c.loop-i.i ≡ c.planned-p.result.count = omega arith in
    (c.planned-p.ensures, c.loop-i.invariant.0 ∙ rw (all, c.planned-p.ensures) (written-slice _ _).0)
