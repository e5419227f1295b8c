-- The row of the table of links decides; the passes over the zones give the first row and the second their numbers.
use mathlib.Core.Bool.{true, false}
use mathlib.Core.Path.{◌≡◌, ◌∙◌}
use Rattle.device_store.specs.Zones.{any_joined, any_up}
use Rattle.device_holds.specs.Holds.{winner, Situation, situation_of}
use Rattle.device_store.proofs.Tests.{via}
use Rattle.device_holds.proofs.Shows.{values-up, values-down, values-none, up_of, down_of, none_of}
use Rattle.device_holds.proofs.values.values_at.Goals as goal

pub returns-then-n-eq2 : goal.returns-then-n-eq2
returns-then-n-eq2 c =
    let s : Situation = situation_of c.args.d.now in
    c.values_up.ensures ∙ values-up s c.args.t (up_of s (via c.link_row-n.ensures c.if-n-eq2.true)) _ _ c.lowest_values_at.ensures.lowest_values_met
    c.leading_setpoints_at.ensures.leading_setpoints_met

pub returns-then-n-eq1 : goal.returns-then-n-eq1
returns-then-n-eq1 c =
    let s : Situation = situation_of c.args.d.now in
    let down : (any_up s.zones ≡ false) × (any_joined s.zones ≡ true) = down_of s (via c.link_row-n.ensures c.if-n-eq1.true) in
    c.values_down.ensures (λ q. winner c.args.t q s.zones) c.lowest_values_at-then-n-eq1.ensures.lowest_values_met ∙ values-down s c.args.t down.0 down.1

pub returns : goal.returns
returns c =
    let s : Situation = situation_of c.args.d.now in
    let down : (any_up s.zones ≡ false) × (any_joined s.zones ≡ false) = none_of s (rw (← c.link_row-n.ensures) c.if-n-eq2.false) (rw (← c.link_row-n.ensures) c.if-n-eq1.false) in
    c.values_none.ensures ∙ values-none s c.args.t down.0 down.1
