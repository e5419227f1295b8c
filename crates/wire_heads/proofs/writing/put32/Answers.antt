-- Two halves of two bytes are four.
use Rattle.wire_bytes.proofs.PutLaws.{put-halves}
use Rattle.wire_heads.proofs.writing.put32.Goals as goal

pub returns : goal.returns
returns c = put-halves c.args.out.now _ _ c.args.at 2 c.args.v c.put16.ensures c.put16-2.ensures
