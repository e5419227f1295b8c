-- A dash for none, the digits of what there is, nothing past the end.
use Rattle.console_words.proofs.Written.{hex-none, hex-some, hex-past, put-nothing}
use Rattle.console_words.proofs.print.put_hex_or_none.Goals as goal

pub returns-then-n-eq0 : goal.returns-then-n-eq0
returns-then-n-eq0 c =
    rw (← hex-none c.args.bytes.now c.args.n c.if-n-eq0.true)
    (record { value = c.put_byte.ensures.value; out_after = c.put_byte.ensures.out_after })

pub returns-then-n-bytes : goal.returns-then-n-bytes
returns-then-n-bytes c =
    rw (← hex-some c.args.bytes.now c.args.n c.if-n-eq0.false c.if-n-bytes.true)
    (record { value = c.put_hex.ensures.value; out_after = c.put_hex.ensures.out_after })

pub returns : goal.returns
returns c =
    let both =
    (put-nothing c.args.out.now c.args.at) in
    rw (← hex-past c.args.bytes.now c.args.n c.if-n-eq0.false c.if-n-bytes.false) (record { value = both.0; out_after = both.1 })
