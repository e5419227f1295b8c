-- Each call is the kernel's, and leaves what the kernel's leaves.
use Rattle.bench_script.specs.Runs.{call_leaves, alone}
use Rattle.bench_script.proofs.calls.run.Goals as goal

pub returns-in-Join : goal.returns-in-Join
unfolding call_leaves alone
returns-in-Join c = rw (c.in-Join.is, c.alone.ensures, c.number_in.ensures, c.join.ensures.value, c.join.ensures.d_after)

pub returns-in-Leave : goal.returns-in-Leave
unfolding call_leaves alone
returns-in-Leave c =
    rw (c.in-Leave.is, c.alone-in-Leave.ensures, c.number_in-in-Leave.ensures, c.leave.ensures.value, c.leave.ensures.d_after)

pub returns-in-Lost : goal.returns-in-Lost
unfolding call_leaves alone
returns-in-Lost c = rw (c.in-Lost.is, c.alone-in-Lost.ensures, c.number_in-in-Lost.ensures, c.lost.ensures.value, c.lost.ensures.d_after)

pub returns-in-Back : goal.returns-in-Back
unfolding call_leaves alone
returns-in-Back c = rw (c.in-Back.is, c.alone-in-Back.ensures, c.number_in-in-Back.ensures, c.back.ensures.value, c.back.ensures.d_after)

pub returns-in-Frame : goal.returns-in-Frame
unfolding call_leaves alone
returns-in-Frame c =
    rw (c.in-Frame.is, c.alone-in-Frame.ensures, c.frame.ensures.value, c.frame.ensures.d_after, c.frame.ensures.out_after)

pub returns-in-Plan : goal.returns-in-Plan
unfolding call_leaves alone
returns-in-Plan c = rw (c.in-Plan.is, c.plan-x.ensures.value, c.plan-x.ensures.rows_after)

pub returns-in-Override : goal.returns-in-Override
unfolding call_leaves alone
returns-in-Override c =
    rw (c.in-Override.is, c.alone-in-Override.ensures, c.number_in-in-Override.ensures, c.set_override.ensures.value, c.set_override.ensures.d_after)

pub returns-in-Clear : goal.returns-in-Clear
unfolding call_leaves alone
returns-in-Clear c =
    rw (c.in-Clear.is, c.alone-in-Clear.ensures, c.number_in-in-Clear.ensures, c.clear_override.ensures.value, c.clear_override.ensures.d_after)

pub returns-in-Move : goal.returns-in-Move
unfolding call_leaves alone
returns-in-Move c =
    rw (c.in-Move.is, c.alone-in-Move.ensures, c.number_in-in-Move.ensures, c.move_clock.ensures.value, c.move_clock.ensures.d_after)

pub returns-in-Ask : goal.returns-in-Ask
unfolding call_leaves alone
returns-in-Ask c = rw (c.in-Ask.is, c.alone-in-Ask.ensures)
