-- `scan_map` and `scan_value` call each other. Assumes nothing.
use Rattle.std.proofs.Common.{◌≡◌, ◌+◌, ◌-◌, arith, sym, ap, ◌∙◌}
use Rattle.wire_cbor.specs.Item.{item_at, end_of}
use Rattle.wire_heads.specs.Key.{least}
use Rattle.wire_cbor.specs.Pass.{note_from}
use Rattle.wire_bytes.proofs.NumberLaws.{all_bytes}
use Rattle.wire_cbor.proofs.ItemSteps.{item_ends, head-ends, key_ends, ended, refused, head-rest, item_rest, pairs-key, pairs-bad, item_no_head, rest_flat, rest_deep, rest_pairs}
use Rattle.wire_cbor.proofs.PassSteps.{left_bad, left_is, ends-none, ends-bad, ends-large, ends_next, value_plain, value_under, value_map}
use Rattle.wire_cbor.proofs.heads.+scan_map_scan_value.Goals as goal

pub scan_map-returns-in_err-key : goal.scan_map-returns-in_err-key
scan_map-returns-in_err-key t c =
    let both = c.loop-passed.invariant.0 _ _ (ends-bad (note_from c.args.path c.args.level) c.args.s.now (item_at c.args.s.now c.args.depth)
    (least c.loop-passed.first c.loop-passed.last) c.loop-passed.p (c.args.n - c.loop-passed.passed) c.loop-passed.heads
    (pairs-key c.args.s.now (item_at c.args.s.now c.args.depth) (least c.loop-passed.first c.loop-passed.last) c.loop-passed.p
    (c.args.n - c.loop-passed.passed) (λ z. omega arith) _ c.read_key.ensures c.in_err-key.was) c.loop-passed.heads) in
    record { value = c.from_residual.ensures ∙ both.0; left = both.1 }

pub scan_map-returns-then-key : goal.scan_map-returns-then-key
scan_map-returns-then-key t c =
    let both = c.loop-passed.invariant.0 _ _ (ends-large (note_from c.args.path c.args.level) c.args.s.now (item_at c.args.s.now c.args.depth)
    (least c.loop-passed.first c.loop-passed.last) c.loop-passed.p (c.args.n - c.loop-passed.passed) c.loop-passed.heads (λ z. omega arith) _
    c.read_key.ensures _ _ c.in_ok-key.was c.if-key.true _ c.past_pairs.ensures) in
    record { value = both.0; left = both.1 }

pub scan_map-scan_value-requires : goal.scan_map-scan_value-requires
scan_map-scan_value-requires t c =
    let h = key_ends c.args.s.now (all_bytes _ c.type_inv.s) c.loop-passed.p (least c.loop-passed.first c.loop-passed.last) _ _ _
    c.read_key.ensures c.in_ok-key.was in
    (omega (arith, h.0, h.1, c.loop-passed.invariant.1, c.decreases), (omega (arith, c.if-key.false), c.requires))

pub scan_map-returns-in_err-p : goal.scan_map-returns-in_err-p
scan_map-returns-in_err-p t c =
    let both = c.loop-passed.invariant.0 _ _ (ends-bad (note_from c.args.path c.args.level) c.args.s.now (item_at c.args.s.now c.args.depth)
    (least c.loop-passed.first c.loop-passed.last) c.loop-passed.p (c.args.n - c.loop-passed.passed) c.loop-passed.heads
    (pairs-bad c.args.s.now (item_at c.args.s.now c.args.depth) (least c.loop-passed.first c.loop-passed.last) c.loop-passed.p
    (c.args.n - c.loop-passed.passed) (λ z. omega arith) _ c.read_key.ensures _ _ c.in_ok-key.was
    (refused (item_at c.args.s.now c.args.depth _) (sym c.in_err-p.was ∙ c.scan_value.ensures.value)))
    c.scan_value.new.heads) in
    record { value = c.from_residual-in_err-p.ensures ∙ both.0; left = both.1 }

pub scan_map-loop-passed-preserved : goal.scan_map-loop-passed-preserved
scan_map-loop-passed-preserved t c =
    let h = key_ends c.args.s.now (all_bytes _ c.type_inv.s) c.loop-passed.p (least c.loop-passed.first c.loop-passed.last) _ _ _
    c.read_key.ensures c.in_ok-key.was in
    let g = ended (item_at c.args.s.now c.args.depth _) _ (sym c.in_ok-p.was ∙ c.scan_value.ensures.value) in
    let less : c.args.n - (c.loop-passed.passed + 1) ≡ c.args.n - c.loop-passed.passed - 1 = omega arith in (
      rw less (λ r m x. c.loop-passed.invariant.0 r m (ends_next (note_from c.args.path c.args.level) c.args.s.now (item_at c.args.s.now c.args.depth)
          (least c.loop-passed.first c.loop-passed.last) c.loop-passed.p (c.args.n - c.loop-passed.passed) c.loop-passed.heads (λ z. omega arith) _
          c.read_key.ensures _ _ c.in_ok-key.was (omega (arith, c.if-key.false)) g.0 _ g.1 _
          (left_is _ _ _ c.scan_value.ensures.left g.0 _ g.1) r m x)),
      omega (
        arith,
        h.0,
        (item_ends c.args.s.now (all_bytes _ c.type_inv.s) _ c.args.depth _ g.0 g.1).0,
        c.loop-passed.invariant.1,
      ),
    )

pub scan_map-returns : goal.scan_map-returns
scan_map-returns t c =
    let both = c.loop-passed.invariant.0 _ _ (ends-none (note_from c.args.path c.args.level) c.args.s.now (item_at c.args.s.now c.args.depth)
    (least c.loop-passed.first c.loop-passed.last) c.loop-passed.p (c.args.n - c.loop-passed.passed) c.loop-passed.heads (omega arith)) in
    record { value = both.0; left = both.1 }

pub scan_value-returns-in_err-head : goal.scan_value-returns-in_err-head
scan_value-returns-in_err-head t c =
    let z = item_no_head c.args.s.now c.args.depth c.args.at _ c.read_head.ensures c.in_err-head.was in
    record { value = c.from_residual.ensures ∙ ap end_of z; left = left_bad _ _ _ (sym z) }

pub scan_value-returns-then-depth-eq0 : goal.scan_value-returns-then-depth-eq0
scan_value-returns-then-depth-eq0 t c =
    let k = value_under c.args.s.now (all_bytes _ c.type_inv.s) c.args.depth c.args.at _ c.read_head.ensures _ _ _ c.in_ok-head.was
    c.args.path c.args.level c.args.key c.args.heads.now _ c.note.ensures _ c.opens.ensures c.if-opens.true in
    let z = item_rest c.args.s.now c.args.depth c.args.at _ c.read_head.ensures _ c.in_ok-head.was _
    (rest_deep c.args.s.now _ _ _ c.args.depth (omega (arith, k.0)) (omega (arith, k.0)) c.if-depth-eq0.true) in
    record {
      value = z;
      left = left_bad _ _ _ (refused (item_at c.args.s.now c.args.depth c.args.at) z);
    }

pub scan_value-scan_map-requires : goal.scan_value-scan_map-requires
scan_value-scan_map-requires t c =
    let h = head-ends c.args.s.now (all_bytes _ c.type_inv.s) c.args.at _ _ _ _ c.read_head.ensures c.in_ok-head.was in (
      omega (arith, h.0, h.1, c.decreases),
      omega (
        arith,
        (value_under c.args.s.now (all_bytes _ c.type_inv.s) c.args.depth c.args.at _ c.read_head.ensures _ _ _ c.in_ok-head.was
            c.args.path c.args.level c.args.key c.args.heads.now _ c.note.ensures _ c.opens.ensures c.if-opens.true).2,
      ),
    )

pub scan_value-returns-then-opens : goal.scan_value-returns-then-opens
scan_value-returns-then-opens t c =
    let k = value_under c.args.s.now (all_bytes _ c.type_inv.s) c.args.depth c.args.at _ c.read_head.ensures _ _ _ c.in_ok-head.was
    c.args.path c.args.level c.args.key c.args.heads.now _ c.note.ensures _ c.opens.ensures c.if-opens.true in
    record {
      value = item_rest c.args.s.now c.args.depth c.args.at _ c.read_head.ensures _ c.in_ok-head.was _
          (rest_pairs c.args.s.now _ _ _ c.args.depth (omega (arith, k.0)) (omega (arith, k.0)) c.if-depth-eq0.false k.0 _
          c.scan_map.ensures.value);
      left = value_map c.args.s.now (all_bytes _ c.type_inv.s) c.args.depth c.args.at _ c.read_head.ensures _ _ _ c.in_ok-head.was
          c.args.path c.args.level c.args.key c.args.heads.now _ c.note.ensures _ c.opens.ensures c.if-opens.true
          c.if-depth-eq0.false _ c.scan_map.ensures.left;
    }

pub scan_value-returns-then-head-lt2 : goal.scan_value-returns-then-head-lt2
scan_value-returns-then-head-lt2 t c =
    record {
      value = item_rest c.args.s.now c.args.depth c.args.at _ c.read_head.ensures _ c.in_ok-head.was _
          (rest_flat c.args.s.now _ _ _ c.args.depth (λ g l. omega arith));
      left = value_plain c.args.s.now (all_bytes _ c.type_inv.s) c.args.depth c.args.at _ c.read_head.ensures _ _ _ c.in_ok-head.was
          c.args.path c.args.level c.args.key c.args.heads.now _ c.note.ensures _ c.opens.ensures c.if-opens.false;
    }

pub scan_value-returns-then-head-eq7 : goal.scan_value-returns-then-head-eq7
scan_value-returns-then-head-eq7 t c =
    record {
      value = item_rest c.args.s.now c.args.depth c.args.at _ c.read_head.ensures _ c.in_ok-head.was _
          (rest_flat c.args.s.now _ _ _ c.args.depth (λ g l. omega arith));
      left = value_plain c.args.s.now (all_bytes _ c.type_inv.s) c.args.depth c.args.at _ c.read_head.ensures _ _ _ c.in_ok-head.was
          c.args.path c.args.level c.args.key c.args.heads.now _ c.note.ensures _ c.opens.ensures c.if-opens.false;
    }

pub scan_value-past_rest-requires : goal.scan_value-past_rest-requires
scan_value-past_rest-requires t c =
    let h = head-ends c.args.s.now (all_bytes _ c.type_inv.s) c.args.at _ _ _ _ c.read_head.ensures c.in_ok-head.was in (
      omega arith,
      head-rest c.args.s.now (all_bytes _ c.type_inv.s) c.args.at _ _ _ _ c.read_head.ensures c.in_ok-head.was c.if-head-eq7.false,
      h.1,
    )

pub scan_value-returns : goal.scan_value-returns
scan_value-returns t c =
    record {
      value = item_rest c.args.s.now c.args.depth c.args.at _ c.read_head.ensures _ c.in_ok-head.was _ c.past_rest.ensures;
      left = value_plain c.args.s.now (all_bytes _ c.type_inv.s) c.args.depth c.args.at _ c.read_head.ensures _ _ _ c.in_ok-head.was
          c.args.path c.args.level c.args.key c.args.heads.now _ c.note.ensures _ c.opens.ensures c.if-opens.false;
    }
