-- Two halves of four bytes are eight.
use Rattle.wire_bytes.proofs.PutLaws.{put-halves}
use Rattle.wire_heads.proofs.writing.put64.Goals as goal

pub returns : goal.returns
returns c = put-halves c.args.out.now _ _ c.args.at 4 c.args.v c.put32.ensures c.put32-2.ensures
