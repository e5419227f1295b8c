-- By the width of the argument.
use native.Mathlib.Omega.{arith}
use Rattle.wire_bytes.proofs.PutLaws.{put-width, put-nothing, put_one}
use Rattle.wire_heads.proofs.Widths.{arg_width_0, arg_width_1, arg_width_8}
use Rattle.wire_heads.proofs.writing.put_argument.Goals as goal

pub returns-then-arg-lt24 : goal.returns-then-arg-lt24
returns-then-arg-lt24 c =
    put-width c.args.out.now _ c.args.at c.args.arg 0 _ (arg_width_0 c.args.arg c.if-arg-lt24.true)
    (put-nothing c.args.out.now c.args.at c.args.arg)

pub bounds-out-at : goal.bounds-out-at
bounds-out-at c = omega (arith, arg_width_1 c.args.arg c.if-arg-lt24.false c.if-arg-lt256.true, c.requires)

pub returns-then-arg-lt256 : goal.returns-then-arg-lt256
returns-then-arg-lt256 c =
    put-width c.args.out.now _ c.args.at c.args.arg 1 _ (arg_width_1 c.args.arg c.if-arg-lt24.false c.if-arg-lt256.true)
    (put_one c.args.out.now c.args.at c.args.arg)

pub put64-requires : goal.put64-requires
put64-requires c = omega (arith, arg_width_8 c.args.arg c.if-arg-lt4294967296.false, c.requires)

pub returns : goal.returns
returns c =
    put-width c.args.out.now _ c.args.at c.args.arg 8 _ (arg_width_8 c.args.arg c.if-arg-lt4294967296.false) c.put64.ensures
