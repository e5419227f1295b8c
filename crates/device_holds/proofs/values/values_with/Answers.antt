-- The row of the table of links decides; the passes over the zones give the first row and the second their numbers.
use mathlib.Core.Bool.{true, false}
use mathlib.Core.Path.{◌≡◌, ◌∙◌}
use Rattle.device_store.specs.Zones.{any_joined, any_up}
use Rattle.device_holds.specs.Holds.{winner, Situation, situation_of, with_zone}
use Rattle.device_store.proofs.Tests.{via}
use Rattle.device_holds.proofs.Shows.{values-up, values-down, values-none, up_of, none-at, down_else}
use Rattle.device_holds.proofs.values.values_with.Goals as goal

pub returns-then-n-eq0 : goal.returns-then-n-eq0
returns-then-n-eq0 c =
    let s : Situation = with_zone (situation_of c.args.d.now) c.args.slot c.args.zone in
    let none : (any_up s.zones ≡ false) × (any_joined s.zones ≡ false) = none-at s (via c.link_row_with-n.ensures c.if-n-eq0.true) in
    c.values_none.ensures ∙ values-none s c.args.t none.0 none.1

pub returns-then-n-eq2 : goal.returns-then-n-eq2
returns-then-n-eq2 c =
    let s : Situation = with_zone (situation_of c.args.d.now) c.args.slot c.args.zone in
    let up = up_of s (via c.link_row_with-n.ensures c.if-n-eq2.true) in
    c.values_up.ensures ∙ values-up s c.args.t up _ _ c.lowest_values_with-a.ensures.lowest_values_met c.leading_setpoints_with.ensures.leading_setpoints_met

pub returns : goal.returns
returns c =
    let s : Situation = with_zone (situation_of c.args.d.now) c.args.slot c.args.zone in
    let down : (any_up s.zones ≡ false) × (any_joined s.zones ≡ true) =
    down_else s (rw (← c.link_row_with-n.ensures) c.if-n-eq0.false) (rw (← c.link_row_with-n.ensures) c.if-n-eq2.false) in
    c.values_down.ensures (λ q. winner c.args.t q s.zones) c.lowest_values_with-a.ensures.lowest_values_met ∙ values-down s c.args.t down.0 down.1
