-- The first i records are written, and the next is at hand.
use mathlib.Core.Path.{◌≡◌}
use Rattle.plan_plain.specs.Records.{record_no, written}
use Rattle.plan_plain.proofs.plain_plan.Given as goal

abbrev pub invariant-loop-i : goal.invariant-loop-i
invariant-loop-i l = (l.rows ≡ written l.d l.i l.initial.rows) × (l.r ≡ record_no l.d l.i)
