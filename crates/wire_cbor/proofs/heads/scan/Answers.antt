-- The item is all of the slice or it is not; what the pass left is then the words of its heads.
use Rattle.wire_bytes.proofs.NumberLaws.{all_bytes}
use Rattle.wire_cbor.proofs.PassSteps.{scan_taken, scan_refused, scan_longer}
use Rattle.wire_cbor.proofs.heads.scan.Goals as goal
use Rattle.wire_cbor.proofs.heads.scan.Goals.{in-Some+else-e-s, in_default}

pub returns-then-e-s : goal.returns-then-e-s
returns-then-e-s c =
    let h = scan_taken c.args.s.now (all_bytes c.args.s.now c.type_inv.s) c.args.path _ c.scan_root.ensures.value _ c.in-Some.is
    c.if-e-s.true _ c.scan_root.ensures.left in
    record { value = h.0; heads_after = h.1 }

pub returns : goal.returns
returns c =
    let s = c.args.s.now in
    elim c.match-scan_root.branch [
      | in-Some+else-e-s w ↦
          let h = scan_longer s (all_bytes s c.type_inv.s) c.args.path _ c.scan_root.ensures.value _ w.in-Some.is w.if-e-s.false _ c.clear.ensures in
          record { value = h.0; heads_after = h.1 }
      | in_default w ↦
          let h = scan_refused s (all_bytes s c.type_inv.s) c.args.path _ c.scan_root.ensures.value w.in_default.is _ c.clear.ensures in
          record { value = h.0; heads_after = h.1 }
    ]
