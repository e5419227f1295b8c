-- Each turn keeps what the page and the records left come to; it ends where no record is ready, with that as its answer.
use Prim.Native.Nat.{ℕ}
use mathlib.Core.Path.{◌≡◌, refl, sym, ◌∙◌}
use native.Mathlib.Omega.{arith}
use borrow.Author.Rules.{rules}
use Rattle.bench_script.specs.Bench.{remaining}
use Rattle.bench_script.proofs.Plays.{comes_same}
use Rattle.bench_stream.specs.Ready.{is_told}
use Rattle.bench_stream.proofs.Turns.{turn_more, told_here}
use Rattle.bench_stream.proofs.Stops.{ready_is}
use Rattle.bench_stream.proofs.pieces.run.Goals as goal

pub loop-d-init : goal.loop-d-init
unfolding remaining
loop-d-init c =
    (omega arith, refl, (λ e. absurd (let z : ◌≡◌ {A = ℕ} 0 1 = cc in omega arith)), (λ e. refl), λ more told. comes_same _ _ _)

pub next-p-requires : goal.next-p-requires
next-p-requires c =
    let ready = ready_is c.args.s.now c.args.last _ c.loop-d.p (sym c.is_ready.ensures ∙ c.loop-d-test.true) in
    (ready.0, ready.1)

pub loop-d-preserved : goal.loop-d-preserved
loop-d-preserved c =
    let ready = ready_is c.args.s.now c.args.last _ c.loop-d.p (sym c.is_ready.ensures ∙ c.loop-d-test.true) in (
      c.next-p.ensures.from_lt_from.1,
      search rules,
      c.next-p.ensures.from_lt_from.2,
      (λ e. absurd (omega (arith, c.next-p.ensures.from_lt_from.0))),
      λ more told. turn_more _ c.args.s.now more _ _ _ c.loop-d.p.from _ c.loop-d.p.good c.loop-d.invariant.2 ready.0 _ _ _ (c.loop-d.invariant.4 more told)
          (c.next-p.ensures.by_index more (told_here c.args.last more (is_told c.args.s.now c.loop-d.p.from) told ready.2)),
    )
