-- By the key that is read, as `step_at` goes by it.
use mathlib.Core.Path.{sym, ap, ◌∙◌}
use Rattle.wire_cbor.specs.Find.{passed}
use Rattle.wire_cbor.proofs.WalkSteps.{no-pair, pair_there, pair_larger, pair_smaller}
use Rattle.wire_cbor.proofs.pairs.look.Goals as goal

pub returns-then-k-key : goal.returns-then-k-key
returns-then-k-key c =
    pair_there c.args.s.now c.args.depth c.args.key c.args.at _ c.read_key.ensures _ c.in-Some.is c.if-k-key.true

pub returns-then-key-k : goal.returns-then-key-k
returns-then-key-k c =
    pair_larger c.args.s.now c.args.depth c.args.key c.args.at _ c.read_key.ensures _ c.in-Some.is c.if-k-key.false
    c.if-key-k.true

pub returns-in_default : goal.returns-in_default
returns-in_default c =
    no-pair c.args.s.now c.args.depth c.args.key c.args.at _ c.read_key.ensures c.in_default.is

pub returns-in-None : goal.returns-in-None
returns-in-None c =
    ap passed (sym c.in-None.is) ∙ pair_smaller c.args.s.now c.args.depth c.args.key c.args.at _
    c.read_key.ensures _ c.in-Some.is c.if-k-key.false c.if-key-k.false _ c.check_item.ensures

pub returns-in-Some-check_item : goal.returns-in-Some-check_item
returns-in-Some-check_item c =
    ap passed (sym c.in-Some-check_item.is) ∙ pair_smaller c.args.s.now c.args.depth c.args.key c.args.at _
    c.read_key.ensures _ c.in-Some.is c.if-k-key.false c.if-key-k.false _ c.check_item.ensures
