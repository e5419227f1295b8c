-- The row of the table of links decides; the passes over the zones give the first row and the second their numbers and the next end.
use mathlib.Core.Bool.{true, false}
use mathlib.Core.Path.{◌≡◌, ◌∙◌}
use Rattle.device_store.specs.Zones.{any_joined, any_up}
use Rattle.device_holds.specs.Holds.{winner, Situation, situation_of}
use Rattle.device_store.proofs.Tests.{via}
use Rattle.device_holds.proofs.Shows.{values-up, values-down, values-none, up_of, down_of, none_of, due_up, due_down, due_none}
use Rattle.device_holds.proofs.values.view_at.Goals as goal

pub returns-then-n-eq2 : goal.returns-then-n-eq2
returns-then-n-eq2 c =
    let s : Situation = situation_of c.args.d.now in
    let up : any_up s.zones ≡ true = up_of s (via c.link_row-n.ensures c.if-n-eq2.true) in
    rw (
      c.values_up.ensures ∙ values-up s c.args.t up c.lowest_values_at-a.result c.leading_setpoints_at-b.result c.lowest_values_at-a.ensures.lowest_values_met
          c.leading_setpoints_at-b.ensures.leading_setpoints_met,
      c.leading_setpoints_at-b.ensures.next_value,
      c.lowest_values_at-a.ensures.next_value,
      due_up s c.args.t up,
    )

pub returns-then-n-eq1 : goal.returns-then-n-eq1
returns-then-n-eq1 c =
    let s : Situation = situation_of c.args.d.now in
    let down : (any_up s.zones ≡ false) × (any_joined s.zones ≡ true) = down_of s (via c.link_row-n.ensures c.if-n-eq1.true) in
    rw (
      c.values_down.ensures (λ q. winner c.args.t q s.zones) c.lowest_values_at-g.ensures.lowest_values_met ∙ values-down s c.args.t down.0 down.1,
      c.lowest_values_at-g.ensures.next_value,
      c.failsafe_end.ensures,
      c.since.ensures,
      c.settings_at.ensures,
      due_down s c.args.t down.0 down.1,
    )

pub returns : goal.returns
returns c =
    let s : Situation = situation_of c.args.d.now in
    let down : (any_up s.zones ≡ false) × (any_joined s.zones ≡ false) = none_of s (rw (← c.link_row-n.ensures) c.if-n-eq2.false) (rw (← c.link_row-n.ensures) c.if-n-eq1.false) in
    rw (c.values_none.ensures ∙ values-none s c.args.t down.0 down.1, due_none s c.args.t down.0 down.1)
