-- By the sign: -1 - v of a negative v is at least 0 and fits.
use mir.Syntax.{w64}
use mir.Val.{SFits}
use Rattle.wire_cbor.specs.Scan.{key_head_of}
use Rattle.wire_fields.specs.Fields.{value_item}
use Rattle.wire_fields.proofs.Signs.{minus_item, plain-item}
use borrow.Author.Rules.{rules}
use Rattle.wire_fields.proofs.puts.field_key_head.Goals as goal

pub returns-then-v-lt0 : goal.returns-then-v-lt0
unfolding value_item key_head_of
returns-then-v-lt0 c =
    let g : SFits w64 c.in-Value.v = search rules in rw (c.in-Value.is, minus_item _ g c.if-v-lt0.true)

pub returns-else-v-lt0 : goal.returns-else-v-lt0
unfolding value_item key_head_of
returns-else-v-lt0 c =
    let g : SFits w64 c.in-Value.v = search rules in rw (c.in-Value.is, plain-item _ g c.if-v-lt0.false)
