-- Each command and number is the case of the definition.
use mathlib.Core.Logic.{inl, inr}
use borrow.Author.Tests.{eq-eqb, ne_eqb}
use Rattle.command_effects.specs.Outcomes.{outcome_with}
use Rattle.device_calls.specs.Commands.{outcome_for}
use Rattle.device_calls.proofs.commands.outcome_of.Goals as goal

pub returns-in-SetLimit : goal.returns-in-SetLimit
unfolding outcome_for outcome_with
returns-in-SetLimit c =
    rw (
      c.limit_outcome.ensures,
      c.is_capped-capped.ensures,
      c.settings_at.ensures,
      c.values_with.ensures,
      c.in-SetLimit.is,
      ← c.has_result.ensures,
      c.if-has_result.true,
    )

pub returns-in-SetSetpoint : goal.returns-in-SetSetpoint
unfolding outcome_for outcome_with
returns-in-SetSetpoint c =
    rw (c.setpoint_outcome.ensures, c.values_with-in-SetSetpoint.ensures, c.in-SetSetpoint.is, eq-eqb _ _ c.if-n-eq0.true)

pub returns-in-SetCurrentLimits : goal.returns-in-SetCurrentLimits
unfolding outcome_for outcome_with
returns-in-SetCurrentLimits c =
    rw (c.current_outcome.ensures, c.values_with-in-SetCurrentLimits.ensures, c.in-SetCurrentLimits.is, eq-eqb _ _ c.if-n-eq0-2.true)

pub returns-in-ClearLimit : goal.returns-in-ClearLimit
unfolding outcome_for outcome_with
returns-in-ClearLimit c =
    let n = eq-eqb _ _ c.if-n-eq0-3.true in
    elim c.in-ClearLimit.is [
      | inl a ↦ rw (a.1, n)
      | inr other ↦ elim other [
        | inl b ↦ rw (b.1, n)
        | inr e ↦ rw (e.1, n)
      ]
    ]

pub returns-in_default : goal.returns-in_default
unfolding outcome_for outcome_with
returns-in_default c = rw (c.in-SetLimit.is, ← c.has_result.ensures, c.if-has_result.false)

pub returns-in_default-2 : goal.returns-in_default-2
unfolding outcome_for outcome_with
returns-in_default-2 c = rw (c.in-SetSetpoint.is, ne_eqb _ _ c.if-n-eq0.false)

pub returns-in_default-3 : goal.returns-in_default-3
unfolding outcome_for outcome_with
returns-in_default-3 c = rw (c.in-SetCurrentLimits.is, ne_eqb _ _ c.if-n-eq0-2.false)

pub returns-in_default-4 : goal.returns-in_default-4
unfolding outcome_for outcome_with
returns-in_default-4 c =
    let n = ne_eqb _ _ c.if-n-eq0-3.false in
    elim c.in-ClearLimit.is [
      | inl a ↦ rw (a.1, n)
      | inr other ↦ elim other [
        | inl b ↦ rw (b.1, n)
        | inr e ↦ rw (e.1, n)
      ]
    ]

pub returns-in_default-5 : goal.returns-in_default-5
unfolding outcome_for outcome_with
returns-in_default-5 c = rw c.in_default.is
