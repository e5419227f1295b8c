-- No zone has a free slot: the failsafe is named.
use borrow.Author.Tests.{eq-eqb}
use Rattle.device_store.specs.Zones.{is_joined}
use Rattle.device_store.proofs.Smaller.{lesser-swap, lesser-min}
use Rattle.device_store.proofs.Tests.{via}
use Rattle.device_holders.specs.Holders.{named}
use Rattle.device_holders.proofs.Places.{named-zone}
use Rattle.device_holders.proofs.named.Goals as goal

pub returns-then-id-eq0 : goal.returns-then-id-eq0
unfolding named is_joined
returns-then-id-eq0 c =
    rw (eq-eqb _ _ (via c.id_at-id.ensures c.if-id-eq0.true), c.saturating_add.ensures, c.since.ensures, c.settings_at.ensures, lesser-swap, lesser-min)

pub returns : goal.returns
returns c =
    named-zone _ _ _ c.id_at-id.result c.held_at.result c.id_at-id.ensures c.if-id-eq0.false c.held_at.ensures
