-- Two stores are the two low bytes.
use Rattle.wire_bytes.proofs.PutLaws.{put_two}
use Rattle.wire_heads.proofs.writing.put16.Goals as goal

pub returns : goal.returns
returns c = put_two c.args.out.now c.args.at c.args.v
