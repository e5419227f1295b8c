-- A first byte below 32 is a head of major type 0, whose argument is the key.
use mathlib.Core.Path.{refl, sym, ◌∙◌}
use Rattle.std.specs.Prelude.{Some, None}
use Rattle.wire_heads.specs.Key.{least}
use Rattle.wire_heads.proofs.KeySteps.{key_end, key_zero, key_other}
use Rattle.wire_heads.proofs.keys.read_key.Goals as goal

pub returns-then-s-at : goal.returns-then-s-at
returns-then-s-at c = key_end c.args.s.now c.args.at (least c.args.first c.args.last) c.if-s-at.true

pub returns-then-info-ge32 : goal.returns-then-info-ge32
returns-then-info-ge32 c =
    key_other c.args.s.now c.args.at _ (least c.args.first c.args.last) c.if-s-at.false refl c.if-info-ge32.true

pub returns-in_err-arg : goal.returns-in_err-arg
returns-in_err-arg c =
    c.from_residual.ensures ∙ key_zero c.args.s.now c.args.at _ (least c.args.first c.args.last) c.if-s-at.false refl c.if-info-ge32.false _ None
    (sym c.in_err-arg.was ∙ c.argument_of.ensures) refl

pub returns : goal.returns
returns c =
    key_zero c.args.s.now c.args.at _ (least c.args.first c.args.last) c.if-s-at.false refl c.if-info-ge32.false _ (Some _)
    (sym c.in_ok-arg.was ∙ c.argument_of.ensures) c.later.ensures
