-- The payload stands behind the prefix.
use Prim.Native.Nat.{ℕ}
use mathlib.Core.List.{List}
use mathlib.Core.Path.{ap, ◌∙◌}
use native.Mathlib.Omega.{arith}
use Rattle.wire_cbor.specs.Item.{payload_of}
use Rattle.wire_requests.specs.Requests.{from_payload}
use Rattle.wire_prefix.proofs.Framed.{long_enough, rest_all}
use Rattle.wire_requests.proofs.Requested.{not-framed, is_framed}
use Rattle.wire_requests.proofs.reading.read_request.Goals as goal

pub slice_bounds-read_payload-count : goal.slice_bounds-read_payload-count
slice_bounds-read_payload-count c =
    omega (arith, long_enough c.args.frame.now _ c.is_framed.ensures c.if-is_framed.true)

pub slice_bounds-read_payload-start : goal.slice_bounds-read_payload-start
slice_bounds-read_payload-start c =
    omega (arith, long_enough c.args.frame.now _ c.is_framed.ensures c.if-is_framed.true)

pub returns-then-is_framed : goal.returns-then-is_framed
returns-then-is_framed c =
    c.read_payload.ensures ∙ ap (λ (p : List ℕ). from_payload (payload_of p)) (rest_all c.args.frame.now) ∙ is_framed c.args.frame.now _
    c.is_framed.ensures c.if-is_framed.true

pub returns : goal.returns
returns c = not-framed c.args.frame.now _ c.is_framed.ensures c.if-is_framed.false
