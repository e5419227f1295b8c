-- A second that is refused has nobody; at any other the holders are asked for.
use Prim.Native.Nat.{ℕ}
use mathlib.Core.Path.{◌∙◌, ap}
use Rattle.refusals.specs.Refusals.{first_of}
use Rattle.device_rules.specs.Rules.{late}
use Rattle.device_store.proofs.Tests.{via}
use Rattle.device_holders.specs.Holders.{holders_said, holders_number, holders_answer}
use Rattle.device_holders.proofs.holders.Goals as goal

pub returns-then-is_late : goal.returns-then-is_late
unfolding holders_said holders_answer holders_number first_of
returns-then-is_late c =
    rw (via (c.is_late.ensures ∙ ap (λ (n : ℕ). late n c.args.t) c.clock.ensures) c.if-is_late.true)

pub returns : goal.returns
unfolding holders_said holders_answer holders_number first_of
returns c =
    rw (via (c.is_late.ensures ∙ ap (λ (n : ℕ). late n c.args.t) c.clock.ensures) c.if-is_late.false, c.holders_at.ensures)
