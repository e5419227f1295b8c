-- Each return is one end of the call: 16, 17, 15 or the report.
use native.Mathlib.Omega.{arith}
use Rattle.report.proofs.Listed.{by_flags}
use Rattle.report.proofs.Answers.{judged_type, few, room, ends-16, ends-17, ends-15, ends-0}
use Rattle.report.proofs.report.Goals as goal

pub returns-then-not-in_range : goal.returns-then-not-in_range
returns-then-not-in_range c =
    let both =
    ends-16 _ _ _ c.in_range.ensures c.if-not-in_range.true in
    record { value = both.0; pairs_after = both.1 }

pub returns-then-not-ascending : goal.returns-then-not-ascending
returns-then-not-ascending c =
    let both =
    ends-17 _ _ _ c.in_range.ensures c.ascending.ensures c.if-not-in_range.false c.if-not-ascending.true in
    record { value = both.0; pairs_after = both.1 }

pub count-n-requires : goal.count-n-requires
count-n-requires c = judged_type _ c.in_range.ensures c.if-not-in_range.false

pub overflow_mul-n : goal.overflow_mul-n
overflow_mul-n c = omega (arith, few _ _ c.count-n.ensures)

pub returns-then-pairs-n : goal.returns-then-pairs-n
returns-then-pairs-n c =
    let both =
    ends-15 _ _ _ c.in_range.ensures c.ascending.ensures c.if-not-in_range.false _ (by_flags _ _ _ c.mark_listed.ensures)
    c.count-n.ensures c.if-not-ascending.false c.if-pairs-n.true in
    record { value = both.0; pairs_after = both.1 }

pub write-requires : goal.write-requires
write-requires c =
    record {
      endpoint_lt_types = judged_type _ c.in_range.ensures c.if-not-in_range.false;
      candidates_in_bounds = room _ _ _ c.count-n.ensures c.if-pairs-n.false;
    }

pub returns : goal.returns
returns c =
    let both =
    ends-0 _ _ _ c.in_range.ensures c.ascending.ensures c.if-not-in_range.false _ (by_flags _ _ _ c.mark_listed.ensures) c.count-n.ensures
    c.if-not-ascending.false _ c.write.ensures c.if-pairs-n.false in
    record { value = both.0; pairs_after = both.1 }
