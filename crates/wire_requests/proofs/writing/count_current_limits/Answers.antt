-- The duration alone may be absent.
use Rattle.wire_requests.proofs.Encoded.{current-limits_count}
use Rattle.wire_requests.proofs.writing.count_current_limits.Goals as goal

pub returns : goal.returns
returns c = current-limits_count c.args.l _ c.duration_amount.ensures _ c.count_amount.ensures
