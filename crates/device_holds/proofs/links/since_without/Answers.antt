-- The second moves only where the last link that is up goes.
use Rattle.device_store.proofs.Tests.{via}
use Rattle.device_holds.proofs.Since.{since-free}
use Rattle.device_holds.proofs.links.since_without.Goals as goal
use Rattle.device_holds.proofs.links.since_without.Goals.{else-is_up-via-then-is_up+else-not-any_up_without, else-is_up-via-else-is_up}

pub returns-then-not-any_up_without : goal.returns-then-not-any_up_without
returns-then-not-any_up_without c =
    rw (since-free, via c.is_up.ensures c.if-is_up.true, via c.any_up_without.ensures c.if-not-any_up_without.true)

pub returns-else-is_up : goal.returns-else-is_up
returns-else-is_up c =
    elim c.else-is_up.branch [
      | else-is_up-via-then-is_up+else-not-any_up_without w ↦
          rw (since-free, via c.is_up.ensures w.if-is_up.true, via w.any_up_without.ensures w.if-not-any_up_without.false) c.since.ensures
      | else-is_up-via-else-is_up w ↦ rw (since-free, via c.is_up.ensures w.if-is_up.false) c.since.ensures
    ]
