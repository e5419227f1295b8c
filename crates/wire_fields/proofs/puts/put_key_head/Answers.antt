-- A key and a head, or nothing.
use Rattle.wire_fields.proofs.Added.{key_head_put, key_head_none}
use Rattle.wire_fields.proofs.puts.put_key_head.Goals as goal

pub returns-then-k-lt-NOTHING : goal.returns-then-k-lt-NOTHING
returns-then-k-lt-NOTHING c = key_head_put c.args.key c.args.k c.if-k-lt-NOTHING.true c.put_pair.ensures

pub returns : goal.returns
returns c = key_head_none c.args.key c.args.k c.if-k-lt-NOTHING.false _ _
