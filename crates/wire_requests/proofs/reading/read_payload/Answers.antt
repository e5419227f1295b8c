-- What is seen of a payload that is one item is what its map has.
use mathlib.Core.Path.{◌∙◌}
use Rattle.wire_requests.proofs.Requested.{is_item, not-item, message_reads}
use Rattle.wire_requests.proofs.reading.read_payload.Goals as goal

pub returns-then-scan : goal.returns-then-scan
returns-then-scan c =
    c.read_message.ensures ∙ is_item c.args.payload.now _ c.scan.ensures.value _ c.scan.ensures.heads_after _ (message_reads _) c.if-scan.true

pub returns : goal.returns
returns c = not-item c.args.payload.now _ c.scan.ensures.value c.if-scan.false
