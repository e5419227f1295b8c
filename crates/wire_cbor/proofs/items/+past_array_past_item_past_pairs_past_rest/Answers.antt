-- `past_item`, `past_rest`, `past_array` and `past_pairs` call each other. Assumes nothing.
use Rattle.wire_cbor.proofs.ItemSteps.{item_rest, item_ends, head-ends, key_ends, ended, refused, items_none, items_bad, items_next}
use Rattle.wire_cbor.proofs.ItemSteps.{pairs-none, pairs-key, pairs-bad, pairs_next, item_no_head, rest_flat, rest_string, rest_deep, rest_array, rest_pairs}
use Rattle.std.proofs.Common.{◌≡◌, ◌+◌, ◌-◌, arith, ap, sym, ◌∙◌}
use Rattle.wire_cbor.specs.Item.{item_at, end_of}
use Rattle.wire_heads.specs.Key.{least}
use Rattle.wire_bytes.proofs.NumberLaws.{all_bytes}
use Rattle.wire_cbor.proofs.items.+past_array_past_item_past_pairs_past_rest.Goals as goal
use Rattle.wire_cbor.proofs.items.+past_array_past_item_past_pairs_past_rest.Goals.{past_item-else-head-ge2-via-then-head-ge2+else-head-le5, past_item-else-head-ge2-via-else-head-ge2}

pub past_array-past_item-requires : goal.past_array-past_item-requires
past_array-past_item-requires t c = (omega (arith, c.loop-i.invariant.1, c.decreases), tt)

pub past_array-returns-in_err-p : goal.past_array-returns-in_err-p
past_array-returns-in_err-p t c =
    c.from_residual.ensures ∙ items_bad (item_at c.args.s.now c.args.depth) c.loop-i.p (c.args.n - c.loop-i._i) (λ z. omega arith)
    (refused (item_at c.args.s.now c.args.depth c.loop-i.p) (sym c.in_err-p.was ∙ c.past_item.ensures))
    ∙ c.loop-i.invariant.0

pub past_array-loop-i-preserved : goal.past_array-loop-i-preserved
past_array-loop-i-preserved t c =
    let g = ended (item_at c.args.s.now c.args.depth c.loop-i.p) _ (sym c.in_ok-p.was ∙ c.past_item.ensures) in
    let less : c.args.n - (c.loop-i._i + 1) ≡ c.args.n - c.loop-i._i - 1 = omega arith in (
      rw less (items_next (item_at c.args.s.now c.args.depth) c.loop-i.p (c.args.n - c.loop-i._i) (λ z. omega arith) g.0 _ g.1
          ∙ c.loop-i.invariant.0),
      omega (
        arith,
        (item_ends c.args.s.now (all_bytes _ c.type_inv.s) c.loop-i.p c.args.depth _ g.0 g.1).0,
        c.loop-i.invariant.1,
      ),
    )

pub past_array-returns : goal.past_array-returns
past_array-returns t c =
    items_none (item_at c.args.s.now c.args.depth) c.loop-i.p (c.args.n - c.loop-i._i) (omega arith) ∙ c.loop-i.invariant.0

pub past_item-returns-in_err-head : goal.past_item-returns-in_err-head
past_item-returns-in_err-head t c =
    c.from_residual.ensures ∙ ap end_of (item_no_head c.args.s.now c.args.depth c.args.at _ c.read_head.ensures c.in_err-head.was)

pub past_item-past_rest-requires : goal.past_item-past_rest-requires
past_item-past_rest-requires t c =
    let h = head-ends c.args.s.now (all_bytes _ c.type_inv.s) c.args.at _ _ _ _ c.read_head.ensures c.in_ok-head.was in
    (omega (arith, h.0, h.1, c.decreases), (omega arith, omega arith, h.1))

pub past_item-returns-then-head-le5 : goal.past_item-returns-then-head-le5
past_item-returns-then-head-le5 t c =
    item_rest c.args.s.now c.args.depth c.args.at _ c.read_head.ensures _ c.in_ok-head.was _ c.past_rest.ensures

pub past_item-returns : goal.past_item-returns
past_item-returns t c =
    item_rest c.args.s.now c.args.depth c.args.at _ c.read_head.ensures _ c.in_ok-head.was _
    (rest_flat c.args.s.now _ _ _ c.args.depth (λ g l. elim c.else-head-ge2.branch [
      | past_item-else-head-ge2-via-then-head-ge2+else-head-le5 w ↦ omega (arith, w.if-head-le5.false)
      | past_item-else-head-ge2-via-else-head-ge2 w ↦ omega (arith, w.if-head-ge2.false)
    ]))

pub past_pairs-returns-in_err-key : goal.past_pairs-returns-in_err-key
past_pairs-returns-in_err-key t c =
    c.from_residual.ensures ∙ ap end_of (pairs-key c.args.s.now (item_at c.args.s.now c.args.depth) (least c.loop-i.start c.loop-i.before) c.loop-i.p
    (c.args.n - c.loop-i._i) (λ z. omega arith) _ c.read_key.ensures c.in_err-key.was) ∙ c.loop-i.invariant.0

pub past_pairs-past_item-requires : goal.past_pairs-past_item-requires
past_pairs-past_item-requires t c =
    let h = key_ends c.args.s.now (all_bytes _ c.type_inv.s) c.loop-i.p (least c.loop-i.start c.loop-i.before) _ _ _
    c.read_key.ensures c.in_ok-key.was in
    (omega (arith, h.0, h.1, c.loop-i.invariant.1, c.decreases), tt)

pub past_pairs-returns-in_err-p : goal.past_pairs-returns-in_err-p
past_pairs-returns-in_err-p t c =
    c.from_residual-in_err-p.ensures ∙ ap end_of (pairs-bad c.args.s.now (item_at c.args.s.now c.args.depth) (least c.loop-i.start c.loop-i.before) c.loop-i.p
    (c.args.n - c.loop-i._i) (λ z. omega arith) _ c.read_key.ensures _ _ c.in_ok-key.was
    (refused (item_at c.args.s.now c.args.depth _) (sym c.in_err-p.was ∙ c.past_item.ensures)))
    ∙ c.loop-i.invariant.0

pub past_pairs-loop-i-preserved : goal.past_pairs-loop-i-preserved
past_pairs-loop-i-preserved t c =
    let h = key_ends c.args.s.now (all_bytes _ c.type_inv.s) c.loop-i.p (least c.loop-i.start c.loop-i.before) _ _ _
    c.read_key.ensures c.in_ok-key.was in
    let g = ended (item_at c.args.s.now c.args.depth _) _ (sym c.in_ok-p.was ∙ c.past_item.ensures) in
    let less : c.args.n - (c.loop-i._i + 1) ≡ c.args.n - c.loop-i._i - 1 = omega arith in (
      rw less (pairs_next c.args.s.now (item_at c.args.s.now c.args.depth) (least c.loop-i.start c.loop-i.before) c.loop-i.p
          (c.args.n - c.loop-i._i) (λ z. omega arith) _ c.read_key.ensures _ _ c.in_ok-key.was g.0 _ g.1 ∙ c.loop-i.invariant.0),
      omega (
        arith,
        h.0,
        (item_ends c.args.s.now (all_bytes _ c.type_inv.s) _ c.args.depth _ g.0 g.1).0,
        c.loop-i.invariant.1,
      ),
    )

pub past_pairs-returns : goal.past_pairs-returns
past_pairs-returns t c =
    ap end_of (pairs-none c.args.s.now (item_at c.args.s.now c.args.depth) (least c.loop-i.start c.loop-i.before)
    c.loop-i.p (c.args.n - c.loop-i._i) (omega arith)) ∙ c.loop-i.invariant.0

pub past_rest-returns-then-head-lt4 : goal.past_rest-returns-then-head-lt4
past_rest-returns-then-head-lt4 t c =
    rest_string c.args.s.now _ _ _ c.args.depth c.requires.0 c.if-head-lt4.true _ c.past_string.ensures

pub past_rest-returns-then-depth-eq0 : goal.past_rest-returns-then-depth-eq0
past_rest-returns-then-depth-eq0 t c =
    rest_deep c.args.s.now _ _ _ c.args.depth c.if-head-lt4.false c.requires.1 c.if-depth-eq0.true

pub past_rest-returns-then-head-eq4 : goal.past_rest-returns-then-head-eq4
past_rest-returns-then-head-eq4 t c =
    rest_array c.args.s.now _ _ _ c.args.depth c.if-head-lt4.false c.requires.1 c.if-depth-eq0.false c.if-head-eq4.true _
    c.past_array.ensures

pub past_rest-returns : goal.past_rest-returns
past_rest-returns t c =
    rest_pairs c.args.s.now _ _ _ c.args.depth c.if-head-lt4.false c.requires.1 c.if-depth-eq0.false (omega arith) _
    c.past_pairs.ensures
