-- What is left to read says the same, turn by turn: whether all is good, and what is stored.
use mathlib.Core.Path.{◌≡◌, sym, ◌∙◌}
use native.Mathlib.Omega.{arith}
use Rattle.std.specs.Prelude.{Some, None}
use lib.ListN.{get_or, length-set}
use Rattle.console_line.specs.Fields.{field_at}
use Rattle.console_line.specs.declared.fields.Kind.{Kind}
use Rattle.console_line.proofs.Turns.{good_turn, stored_turn, bad_here, all_read}
use Rattle.console_line.proofs.fields.read.Goals as goal

pub returns-in_default : goal.returns-in_default
returns-in_default c =
    let here : field_at c.args.line.now c.args.ends.now (get_or c.args.kinds.now c.loop-k.k Kind.Any) c.loop-k.k ≡ None =
    rw (← c.span-word.ensures) (sym c.field.ensures ∙ c.in_default.is) in
    let both =
    bad_here _ _ _ _ _ _ _ c.loop-k.invariant.good c.loop-k.invariant.stored (omega arith) here in
    record { value = both.0; fields_after = both.1 }

pub loop-k-preserved : goal.loop-k-preserved
loop-k-preserved c =
    let here : field_at c.args.line.now c.args.ends.now (get_or c.args.kinds.now c.loop-k.k Kind.Any) c.loop-k.k ≡ Some c.in-Some.n =
    rw (← c.span-word.ensures) (sym c.field.ensures ∙ c.in-Some.is) in
    record {
      len = rw (c.put.ensures, length-set) c.loop-k.invariant.len;
      good = good_turn _ _ _ _ _ _ _ c.loop-k.invariant.good c.loop-k.invariant.stored (omega arith) _ here;
      stored = stored_turn _ _ _ _ _ _ _ c.loop-k.invariant.good c.loop-k.invariant.stored (omega arith) _ here _ c.put.ensures;
    }

pub returns : goal.returns
returns c =
    let both =
    all_read _ _ _ _ _ _ _ c.loop-k.invariant.good c.loop-k.invariant.stored (omega arith) in
    record { value = both.0; fields_after = both.1 }
