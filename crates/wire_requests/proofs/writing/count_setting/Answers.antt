-- Each field counts itself, and the cause is always there.
use Rattle.wire_requests.proofs.Encoded.{setting_count}
use Rattle.wire_requests.proofs.writing.count_setting.Goals as goal

pub returns : goal.returns
returns c = setting_count c.args.s _ _ _ c.count_value.ensures c.count_value-2.ensures c.count_amount.ensures
