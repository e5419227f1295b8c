-- By the first byte, as `head_at` goes by it.
use native.Mathlib.Omega.{arith}
use Prim.Native.Nat.{◌/◌, ◌+◌}
use mathlib.Core.Path.{◌≡◌, refl, sym, ◌∙◌}
use lib.ListN.{get_or}
use Rattle.std.specs.Prelude.{Some, None}
use Rattle.wire_heads.proofs.HeadSteps.{head-end, head_in, head-low, head-out, arg_low, in_simple, in_none}
use Rattle.wire_heads.proofs.reading.read_head.Goals as goal

pub returns-then-s-at : goal.returns-then-s-at
returns-then-s-at c = head-end c.args.s.now c.args.at c.if-s-at.true

pub returns-then-major-le5 : goal.returns-then-major-le5
returns-then-major-le5 c =
    head-low c.args.s.now c.args.at _ c.if-s-at.false refl c.if-major-le5.true (Some _) (sym c.argument_of.ensures ∙ c.in_ok-arg.was)

pub returns-in_err-arg : goal.returns-in_err-arg
returns-in_err-arg c =
    c.from_residual.ensures ∙ head-low c.args.s.now c.args.at _ c.if-s-at.false refl c.if-major-le5.true None
    (sym c.argument_of.ensures ∙ c.in_err-arg.was)

pub returns-in-244-to-246 : goal.returns-in-244-to-246
returns-in-244-to-246 c =
    let seven : get_or c.args.s.now c.args.at 0 / 32 ≡ 7 = omega (arith, (c.type_inv.s c.args.at).fits) in
    rw seven at (head_in c.args.s.now c.args.at _ c.if-s-at.false refl
    (in_simple _ c.if-major-le5.false (c.type_inv.s c.args.at).fits (omega arith) (omega arith)) _
    (arg_low c.args.s.now (c.args.at + 1) _ (omega arith)))

pub returns-in_default : goal.returns-in_default
returns-in_default c =
    head-out c.args.s.now c.args.at _ c.if-s-at.false refl
    (in_none _ c.if-major-le5.false (c.type_inv.s c.args.at).fits (λ g h. omega arith))

pub returns-in_default-2 : goal.returns-in_default-2
returns-in_default-2 c =
    head-out c.args.s.now c.args.at _ c.if-s-at.false refl
    (in_none _ c.if-major-le5.false (c.type_inv.s c.args.at).fits (λ g h. omega arith))
