-- A line that is a reading is taken; another is bad.
use Rattle.console_other_lines.specs.Lines.{is_new}
use Rattle.console_other_lines.proofs.Answered.{answered, bad}
use Rattle.console_other_lines.proofs.prints.tick.Goals as goal

pub returns-in-Some : goal.returns-in-Some
unfolding is_new
returns-in-Some c =
    let both =
    answered c.args.front.now c.args.s.now c.args.ends.now c.args.count c.args.out.now c.args.at _ _ _ _ c.tick_in.ensures c.in-Some.is
    c.is_word.ensures c.begin.ensures
    (c.put_reading.ensures.value, (c.put_reading.ensures.out_after, c.put_reading.ensures.front_after)) in
    record { value = both.0; out_after = both.1.0; front_after = both.1.1 }

pub returns-in-None : goal.returns-in-None
returns-in-None c =
    let both =
    bad c.args.front.now c.args.s.now c.args.ends.now c.args.count c.args.out.now c.args.at _ c.tick_in.ensures c.in-None.is
    (c.put_bad.ensures.value, c.put_bad.ensures.out_after) in
    record { value = both.0; out_after = both.1.0; front_after = both.1.1 }
