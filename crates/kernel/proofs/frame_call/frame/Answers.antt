-- A right prefix has a payload behind it, which `payload_call` answers; a wrong one is reading 1, and nothing moves.
use mathlib.Core.Path.{sym, ◌∙◌}
use native.Mathlib.Omega.{arith}
use Rattle.wire_prefix.proofs.Framed.{long_enough, rest_all}
use Rattle.kernel.proofs.Framing.{as_framed, not-framed, refused-reading}
use Rattle.kernel.proofs.frame_call.frame.Goals as goal

pub slice_bounds-payload_call-count : goal.slice_bounds-payload_call-count
slice_bounds-payload_call-count c =
    omega (arith, long_enough c.args.bytes.now _ c.is_framed.ensures c.if-is_framed.true)

pub slice_bounds-payload_call-start : goal.slice_bounds-payload_call-start
slice_bounds-payload_call-start c =
    omega (arith, long_enough c.args.bytes.now _ c.is_framed.ensures c.if-is_framed.true)

pub returns-then-is_framed : goal.returns-then-is_framed
returns-then-is_framed c =
    let both =
    as_framed c.args.d.now c.args.zone c.args.t c.args.out.now c.args.bytes.now _ _ _
    (sym c.is_framed.ensures ∙ c.if-is_framed.true) (rw (← rest_all c.args.bytes.now) (c.payload_call.ensures.value, (c.payload_call.ensures.d_after, c.payload_call.ensures.out_after))) in
    record { value = both.0; d_after = both.1.0; out_after = both.1.1 }

pub returns : goal.returns
returns c =
    let both =
    not-framed c.args.d.now c.args.zone c.args.t c.args.out.now c.args.bytes.now _ _ _
    (sym c.is_framed.ensures ∙ c.if-is_framed.false) (refused-reading c.args.d.now c.args.zone c.args.t c.args.out.now 1) in
    record { value = both.0; d_after = both.1.0; out_after = both.1.1 }
