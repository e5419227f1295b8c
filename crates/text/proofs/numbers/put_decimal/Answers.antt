-- The digits are put where they have room, and nothing else is.
use Rattle.wire_bytes.proofs.PutLaws.{stored, not-stored}
use Rattle.text.specs.Text.{decimal}
use Rattle.text.proofs.Digits.{decimal-length, put-decimal}
use Rattle.text.proofs.numbers.put_decimal.Goals as goal

pub returns-then-has_room : goal.returns-then-has_room
returns-then-has_room c =
    let both = stored c.args.out.now (decimal c.args.n) c.args.at _ (decimal-length c.args.n _ c.width_of-width.ensures.value) _
    c.has_room.ensures _ c.if-has_room.true (put-decimal c.args.out.now _ c.args.at _ c.args.n c.width_of-width.ensures.value
    c.put_digits.ensures) in record { value = both.0; out_after = both.1 }

pub returns : goal.returns
returns c =
    let both = not-stored c.args.out.now (decimal c.args.n) c.args.at _ (decimal-length c.args.n _ c.width_of-width.ensures.value) _
    c.has_room.ensures c.if-has_room.false in record { value = both.0; out_after = both.1 }
