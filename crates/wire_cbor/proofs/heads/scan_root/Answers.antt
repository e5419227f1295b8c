-- By the head: a map is walked, anything else has no pairs to note.
use native.Mathlib.Omega.{arith}
use mathlib.Core.Path.{sym, ap, ◌∙◌}
use Rattle.wire_cbor.specs.Item.{end_of, levels}
use Rattle.wire_cbor.specs.Pass.{note_from, blank}
use Rattle.wire_bytes.proofs.NumberLaws.{all_bytes}
use Rattle.wire_cbor.proofs.ItemSteps.{head-ends, head-rest, item_rest, item_no_head, rest_flat, rest_pairs}
use Rattle.wire_cbor.proofs.PassSteps.{left_bad, root_plain, root_map}
use Rattle.wire_cbor.proofs.heads.scan_root.Goals as goal

pub returns-then-head-eq5 : goal.returns-then-head-eq5
returns-then-head-eq5 c =
    record {
      value = item_rest c.args.s.now levels 0 _ c.read_head.ensures _ c.in_ok-head.was _
          (rest_pairs c.args.s.now _ _ _ levels (omega arith) (omega arith) (λ z. omega arith) c.if-head-eq5.true _ c.scan_map.ensures.value);
      left = root_map
          c.args.s.now (all_bytes c.args.s.now c.type_inv.s) levels 0 _ c.read_head.ensures _ _ _ c.in_ok-head.was
          (note_from c.args.path 0) _ blank c.clear.ensures c.if-head-eq5.true (λ z. omega arith) _ c.scan_map.ensures.left;
    }

pub returns-then-head-lt2 : goal.returns-then-head-lt2
returns-then-head-lt2 c =
    record {
      value = item_rest c.args.s.now levels 0 _ c.read_head.ensures _ c.in_ok-head.was _
          (rest_flat c.args.s.now _ _ _ levels (λ g l. omega arith));
      left = root_plain c.args.s.now
          (all_bytes c.args.s.now c.type_inv.s) levels 0 _ c.read_head.ensures _ _ _ c.in_ok-head.was
          (note_from c.args.path 0) _ blank c.clear.ensures c.if-head-eq5.false;
    }

pub returns-then-head-eq7 : goal.returns-then-head-eq7
returns-then-head-eq7 c =
    record {
      value = item_rest c.args.s.now levels 0 _ c.read_head.ensures _ c.in_ok-head.was _
          (rest_flat c.args.s.now _ _ _ levels (λ g l. omega arith));
      left = root_plain c.args.s.now
          (all_bytes c.args.s.now c.type_inv.s) levels 0 _ c.read_head.ensures _ _ _ c.in_ok-head.was
          (note_from c.args.path 0) _ blank c.clear.ensures c.if-head-eq5.false;
    }

pub past_rest-requires : goal.past_rest-requires
past_rest-requires c =
    let h = head-ends c.args.s.now (all_bytes c.args.s.now c.type_inv.s) 0 _ _ _ _ c.read_head.ensures
    c.in_ok-head.was in (
      omega arith,
      head-rest c.args.s.now (all_bytes c.args.s.now c.type_inv.s) 0 _ _ _ _ c.read_head.ensures
          c.in_ok-head.was c.if-head-eq7.false,
      h.1,
    )

pub returns-in_err-head : goal.returns-in_err-head
returns-in_err-head c =
    let z = item_no_head c.args.s.now levels 0 _ c.read_head.ensures c.in_err-head.was in
    record {
      value = c.from_residual.ensures ∙ ap end_of z;
      left = left_bad _ _ _ (sym z);
    }

pub returns : goal.returns
returns c =
    record {
      value = item_rest c.args.s.now levels 0 _ c.read_head.ensures _ c.in_ok-head.was _ c.past_rest.ensures;
      left = root_plain
          c.args.s.now (all_bytes c.args.s.now c.type_inv.s) levels 0 _ c.read_head.ensures _ _ _ c.in_ok-head.was
          (note_from c.args.path 0) _ blank c.clear.ensures c.if-head-eq5.false;
    }
