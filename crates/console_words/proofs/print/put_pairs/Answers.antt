-- What was put and what is left from each pair on make the whole.
use mathlib.Core.Path.{refl}
use mathlib.Core.List.{[], ◌∷◌}
use native.Mathlib.Omega.{arith}
use Rattle.text.proofs.Pieces.{all_to_do, one_done, run-done, all_done}
use Rattle.console_words.proofs.Written.{report_none, report_some, pair_turn, pairs_over}
use Rattle.console_words.proofs.print.put_pairs.Goals as goal

pub returns-then-n-eq0 : goal.returns-then-n-eq0
returns-then-n-eq0 c =
    let w = one_done _ _ _ _ _ _ _ _ _ (all_to_do c.args.out.now c.args.at ((32 ∷ 45 ∷ []) ∷ [])) (c.put_bytes.ensures.value, c.put_bytes.ensures.out_after) in
    let both =
    (all_done _ _ _ _ _ _ w refl) in
    rw (← report_none c.args.pairs.now c.args.n c.if-n-eq0.true) (record { value = both.0; out_after = both.1 })

pub loop-group-preserved : goal.loop-group-preserved
loop-group-preserved c =
    let next = pair_turn c.args.pairs.now _ c.as_chunks.ensures.front c.args.n _ c.loop-group.group-index (omega (arith, c.as_chunks.ensures.front_len)) c.loop-group-test.true in
    run-done _ _ _ _ _ _ _ _ _ (rw next at c.loop-group.invariant) (c.put_pair-p.ensures.value, c.put_pair-p.ensures.out_after)

pub returns : goal.returns
returns c =
    let both =
    (all_done _ _ _ _ _ _ c.loop-group.invariant (pairs_over c.args.pairs.now _ c.as_chunks.ensures.front c.args.n _ c.loop-group.group-index c.as_chunks.ensures.front_len (omega (arith, c.as_chunks.ensures.front_len)) c.loop-group-test.false)) in
    rw (← report_some c.args.pairs.now c.args.n c.if-n-eq0.false) (record { value = both.0; out_after = both.1 })
