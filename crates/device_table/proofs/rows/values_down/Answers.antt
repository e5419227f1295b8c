-- Each limit is the smaller of the failsafe limit and what the pass met, currents are what it met; behind the end of the failsafe nothing holds.
use Rattle.device_table.specs.Rows.{values_down}
use Rattle.device_store.proofs.Tests.{via}
use Rattle.device_table.proofs.Filled.{first-met, second_met, safe_filled}
use Rattle.device_table.proofs.rows.values_down.Goals as goal

pub returns-then-failsafe_holds : goal.returns-then-failsafe_holds
unfolding values_down
returns-then-failsafe_holds c f m =
    rw (← c.since.ensures, ← c.settings_at-s.ensures, via c.failsafe_holds.ensures c.if-failsafe_holds.true)
    (safe_filled c.settings_at-s.result c.args.g f m c.safe_low.result c.safe_low-then-failsafe_holds.result (c.safe_low.ensures (f 0) (first-met c.args.g f m))
    (c.safe_low-then-failsafe_holds.ensures (f 1) (second_met c.args.g f m c.safe_low.result)) c.row-v.result c.row-v.ensures.0 c.row-v.ensures.1)

pub returns : goal.returns
unfolding values_down
returns c f m =
    rw (← c.since.ensures, ← c.settings_at-s.ensures, via c.failsafe_holds.ensures c.if-failsafe_holds.false) c.values_none.ensures
