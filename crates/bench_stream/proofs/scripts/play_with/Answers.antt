-- Each piece in which something was run leaves fewer bytes to read and run; where none was, the input is at its end.
use Prim.Native.Nat.{◌≤◌}
use mathlib.Core.Path.{sym, ◌∙◌}
use native.Mathlib.Omega.{arith}
use borrow.Author.Rules.{rules}
use lib.ListN.{length}
use lib.Seq.{length-take-le}
use Rattle.std.proofs.lemmas.Result.{err_from_is_err_and}
use Rattle.bench_stream.specs.Buffer.{Takes}
use Rattle.bench_stream.proofs.Stops.{goes_some, read_all}
use Rattle.bench_stream.proofs.Taken.{takes_then, takes_fewer}
use Rattle.bench_stream.proofs.scripts.play_with.Goals as goal

pub returns-in_err-x-clause-taken : goal.returns-in_err-x-clause-taken
returns-in_err-x-clause-taken g c =
    let p = err_from_is_err_and c.from_residual.result c.from_residual.ensures.1 in
    rw (p.1) (takes_then _ _ _ _ _ _ c.loop-x.invariant.5 c.in_err-x.ensures.taken)

pub returns-in_err-show-clause-taken : goal.returns-in_err-show-clause-taken
returns-in_err-show-clause-taken g c =
    let p = err_from_is_err_and c.from_residual-in_err-show.result c.from_residual-in_err-show.ensures.1 in
    let t : Takes (g.R.Read.remaining c.args.input.now) (g.R.Read.remaining c.fill.new.input) 0 c.args.limit =
    takes_fewer _ _ 0 _ _ (omega arith) (takes_then _ _ _ _ _ _ c.loop-x.invariant.5 c.in_ok-x.ensures.taken) in
    rw (p.1) t

pub loop-x-smaller : goal.loop-x-smaller
loop-x-smaller g c =
    let w = c.in_ok-x.ensures.filled in
    let within = w.within in
    let h : c.in_ok-x.x.to ≤ length c.fill.new.buf = omega (arith, within) in
    let l = length-take-le c.in_ok-x.x.to c.fill.new.buf h in
    omega (arith, l, c.run-p.ensures.within, w.counted, goes_some c.run-p.result (sym c.goes_on.ensures ∙ c.if-not-goes_on.false))

pub loop-x-preserved : goal.loop-x-preserved
loop-x-preserved g c =
    let w = c.in_ok-x.ensures.filled in
    let within = w.within in
    let h : c.in_ok-x.x.to ≤ length c.fill.new.buf = omega (arith, within) in
    let l = length-take-le c.in_ok-x.x.to c.fill.new.buf h in (
      omega (arith, l, c.run-p.ensures.within),
      h,
      search rules,
      search rules,
      omega (arith, l, c.run-p.ensures.within, w.counted, c.loop-x.invariant.4),
      takes_then _ _ _ _ _ _ c.loop-x.invariant.5 c.in_ok-x.ensures.taken,
    )

pub returns-then-not-goes_on-clause-ended : goal.returns-then-not-goes_on-clause-ended
returns-then-not-goes_on-clause-ended g c =
    let w = c.in_ok-x.ensures.filled in
    let within = w.within in
    let h : c.in_ok-x.x.to ≤ length c.fill.new.buf = omega (arith, within) in
    let l = length-take-le c.in_ok-x.x.to c.fill.new.buf h in (
      omega (arith, w.counted, c.loop-x.invariant.4),
      λ y. read_all _ _ c.in_ok-x.x.to c.in_ok-x.x.left _ c.run-p.result _ _ (sym l) w.enough
          (omega (arith, c.requires, c.loop-x.invariant.3)) c.run-p.ensures (sym c.goes_on.ensures ∙ c.if-not-goes_on.true) y,
    )

pub returns-then-not-goes_on-clause-taken : goal.returns-then-not-goes_on-clause-taken
returns-then-not-goes_on-clause-taken g c = takes_then _ _ _ _ _ _ c.loop-x.invariant.5 c.in_ok-x.ensures.taken
