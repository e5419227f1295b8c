-- What is left to walk finds what the whole walk finds.
use Prim.Native.Nat.{◌+◌, ◌-◌}
use mathlib.Core.Path.{◌≡◌, ◌∙◌}
use native.Mathlib.Omega.{arith}
use Rattle.wire_cbor.proofs.WalkSteps.{walk-halt, walk-there, walk-past, walk_end}
use Rattle.wire_cbor.proofs.pairs.seek.Goals as goal

pub returns-in-Halt : goal.returns-in-Halt
returns-in-Halt c =
    walk-halt c.args.s.now c.args.depth c.args.key c.loop-passed.p (c.args.left - c.loop-passed.passed) (λ z. omega arith) _
    c.look.ensures c.in-Halt.is ∙ c.loop-passed.invariant

pub returns-in-There : goal.returns-in-There
returns-in-There c =
    walk-there c.args.s.now c.args.depth c.args.key c.loop-passed.p (c.args.left - c.loop-passed.passed) (λ z. omega arith) _
    c.look.ensures _ c.in-There.is ∙ c.loop-passed.invariant

pub loop-passed-preserved : goal.loop-passed-preserved
loop-passed-preserved c =
    let less : c.args.left - (c.loop-passed.passed + 1) ≡ c.args.left - c.loop-passed.passed - 1 = omega arith in
    rw less (walk-past c.args.s.now c.args.depth c.args.key c.loop-passed.p (c.args.left - c.loop-passed.passed) (λ z. omega arith) _ c.look.ensures _
    c.in-Past.is ∙ c.loop-passed.invariant)

pub returns : goal.returns
returns c =
    walk_end c.args.s.now c.args.depth c.args.key c.loop-passed.p (c.args.left - c.loop-passed.passed) (omega arith) ∙ c.loop-passed.invariant
