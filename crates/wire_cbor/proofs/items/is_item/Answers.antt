-- The item that starts the slice is all of it where it ends with it.
use Rattle.wire_cbor.proofs.ItemSteps.{whole-bad, whole-ends}
use Rattle.wire_cbor.proofs.items.is_item.Goals as goal

pub returns-in-None : goal.returns-in-None
returns-in-None c = whole-bad c.args.s.now _ c.check_item.ensures c.in-None.is

pub returns-in-Some : goal.returns-in-Some
returns-in-Some c = whole-ends c.args.s.now _ c.check_item.ensures _ c.in-Some.is
