-- What was not yet run comes to the front and stays there; what is read behind it is counted, and stays within the buffer.
use Prim.Native.Nat.{◌-◌}
use mathlib.Core.Path.{refl, sym, ap, ◌∙◌}
use native.Mathlib.Omega.{arith}
use borrow.Author.Rules.{rules}
use lib.ListN.{take}
use Rattle.std.proofs.lemmas.Result.{err_from_is_err_and}
use Rattle.bench_stream.proofs.Moves.{shifted-front, front-stays, not_more}
use Rattle.bench_stream.proofs.Taken.{takes_none, takes_more, takes_fewer, takes_kept}
use Rattle.bench_stream.proofs.input.fill.Goals as goal

pub loop-input-init : goal.loop-input-init
loop-input-init g c = (omega arith, omega arith, omega arith, refl, refl, takes_none _ _)

pub returns-in_err-n-clause-kept_on_error : goal.returns-in_err-n-clause-kept_on_error
returns-in_err-n-clause-kept_on_error g c =
    let x = c.args.x in
    let n = x.to - x.from in
    let front = shifted-front c.args.buf.now x.from x.to c.requires.0 c.requires.1 in
    let p = err_from_is_err_and c.from_residual.result c.from_residual.ensures.1 in
    rw (p.1)
    (front-stays c.read_more.new.buf c.loop-input.buf n c.loop-input.to c.loop-input.invariant.0 c.read_more.ensures.buf_unchanged
    ∙ c.loop-input.invariant.4 ∙ ap (take n) c.shift.ensures ∙ front)

pub returns-in_err-n-clause-taken : goal.returns-in_err-n-clause-taken
returns-in_err-n-clause-taken g c =
    let p = err_from_is_err_and c.from_residual.result c.from_residual.ensures.1 in
    rw (p.1) (takes_fewer _ _ 0 _ _ (omega arith) (takes_kept _ _ _ _ _ c.loop-input.invariant.5 c.in_err-n.ensures.taken))

pub returns-then-n-eq0-clause-filled : goal.returns-then-n-eq0-clause-filled
returns-then-n-eq0-clause-filled g c =
    let x = c.args.x in
    let n = x.to - x.from in
    let front = shifted-front c.args.buf.now x.from x.to c.requires.0 c.requires.1 in
    record {
      first = refl;
      within = omega arith;
      more = c.loop-input.invariant.0;
      kept =
          front-stays c.read_more.new.buf c.loop-input.buf n c.loop-input.to c.loop-input.invariant.0 c.read_more.ensures.buf_unchanged
          ∙ c.loop-input.invariant.4 ∙ ap (take n) c.shift.ensures ∙ front;
      counted = omega arith;
      enough = not_more c.loop-input.to;
    }

pub returns-then-n-eq0-clause-taken : goal.returns-then-n-eq0-clause-taken
returns-then-n-eq0-clause-taken g c =
    takes_fewer _ _ 0 _ _ (omega arith) (takes_more _ _ _ _ _ _ c.loop-input.invariant.5 c.in_ok-n.ensures.taken (omega (arith, c.in_ok-n.ensures.result_in_bounds.1)))

pub loop-input-preserved : goal.loop-input-preserved
loop-input-preserved g c =
    let x = c.args.x in
    let n = x.to - x.from in
    let r = c.in_ok-n.ensures.result_in_bounds in (
      omega (arith, c.loop-input.invariant.0),
      omega (arith, r.1, c.loop-input.invariant.1),
      omega (arith, r.0),
      search rules,
      front-stays c.read_more.new.buf c.loop-input.buf n c.loop-input.to c.loop-input.invariant.0 c.read_more.ensures.buf_unchanged ∙ c.loop-input.invariant.4,
      takes_more _ _ _ _ _ _ c.loop-input.invariant.5 c.in_ok-n.ensures.taken r.1,
    )

pub returns-clause-filled : goal.returns-clause-filled
returns-clause-filled g c =
    let x = c.args.x in
    let n = x.to - x.from in
    let front = shifted-front c.args.buf.now x.from x.to c.requires.0 c.requires.1 in
    record {
      first = refl;
      within = omega arith;
      more = c.loop-input.invariant.0;
      kept = c.loop-input.invariant.4 ∙ ap (take n) c.shift.ensures ∙ front;
      counted = omega arith;
      enough = sym c.is_short.ensures ∙ c.loop-input-test.false;
    }

pub returns-clause-taken : goal.returns-clause-taken
returns-clause-taken g c = c.loop-input.invariant.5
