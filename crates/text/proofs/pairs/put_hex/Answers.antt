-- The pairs are put where they have room, and nothing else is.
use Rattle.wire_bytes.proofs.PutLaws.{stored, not-stored}
use Rattle.text.specs.Text.{hex}
use Rattle.text.proofs.Hexes.{hex-length}
use Rattle.text.proofs.pairs.put_hex.Goals as goal

pub returns-then-has_pairs : goal.returns-then-has_pairs
returns-then-has_pairs c =
    let both = stored c.args.out.now (hex c.args.bytes.now) c.args.at _ (hex-length c.args.bytes.now) _ c.has_pairs.ensures _
    c.if-has_pairs.true c.put_pairs.ensures in record { value = both.0; out_after = both.1 }

pub returns : goal.returns
returns c =
    let both = not-stored c.args.out.now (hex c.args.bytes.now) c.args.at _ (hex-length c.args.bytes.now) _ c.has_pairs.ensures
    c.if-has_pairs.false in record { value = both.0; out_after = both.1 }
