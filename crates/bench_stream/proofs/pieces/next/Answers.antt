-- A good record is one step of the script with its answer behind what was printed; a bad one leaves its line alone.
use Prim.Native.Nat.{ℕ}
use mathlib.Core.Path.{◌≡◌, refl, sym, ◌∙◌}
use native.Mathlib.Omega.{arith}
use Rattle.bench_script.proofs.Steps.{step-moves}
use borrow.Author.Rules.{rules}
use Rattle.bench_stream.proofs.Turns.{turn_good, turn_bad}
use Rattle.bench_stream.proofs.pieces.next.Goals as goal

pub returns : goal.returns
returns c =
    let m = step-moves c.args.d.now c.args.s.now c.args.p.from c.args.out.now c.args.rows.now _ (sym c.step.ensures.value ∙ c.in-Some.is) in
    record {
      from_lt_from = (omega (arith, m.0), m.1, λ e. absurd (let z : ◌≡◌ {A = ℕ} 0 1 = cc in omega arith));
      by_index = turn_good c.args.d.now c.args.s.now c.args.p.from c.args.out.now c.args.rows.now c.requires.0 (search rules) (search rules) _
          c.step.ensures.value _ c.step.ensures.d_after _ c.in-Some.is _ c.step.ensures.rows_after (search rules) _ _ _ _ c.requires.1 (
            c.print_answer.ensures.value,
            c.print_answer.ensures.out_after,
          );
    }

pub returns-in_default : goal.returns-in_default
returns-in_default c =
    record {
      from_lt_from = (c.requires.0, omega arith, λ e. refl);
      by_index = λ more told. turn_bad c.args.d.now c.args.s.now c.args.p.from c.args.out.now c.args.rows.now c.requires.0 (search rules)
          (search rules) _ c.step.ensures.value _ c.step.ensures.d_after c.in_default.is _ _ more _ told;
    }
