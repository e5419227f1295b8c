-- A negative number is a sign and its size, any other its size.
use mir.Facts.{to_z-of_z}
use Rattle.text.proofs.Signs.{signed_below, signed_above}
use Rattle.text.proofs.numbers.put_signed.Goals as goal

pub returns-then-n-lt0 : goal.returns-then-n-lt0
returns-then-n-lt0 c =
    let below = rw (to_z-of_z c.ranges.n) at c.if-n-lt0.true in
    let size = rw (to_z-of_z c.ranges.n) at c.unsigned_abs-size.ensures.value in
    rw (← signed_below c.args.n _ below size) (record { value = c.put_minus.ensures.value; out_after = c.put_minus.ensures.out_after })

pub returns-else-n-lt0 : goal.returns-else-n-lt0
returns-else-n-lt0 c =
    let above = rw (to_z-of_z c.ranges.n) at c.if-n-lt0.false in
    let size = rw (to_z-of_z c.ranges.n) at c.unsigned_abs-size.ensures.value in
    rw (← signed_above c.args.n _ above size) (record { value = c.put_decimal.ensures.value; out_after = c.put_decimal.ensures.out_after })
