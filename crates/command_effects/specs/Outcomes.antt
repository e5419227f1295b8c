-- What a command is answered. Assumes nothing: these are definitions.
use Rattle.std.specs.Prelude.{ℕ, ◌+◌, Bool, cond, List, eqb, get_or, ℤ, pos}
use Rattle.wire_messages.specs.Numbers.{SET_LIMIT}
use Rattle.wire_messages.specs.Statuses.{stands}
use Rattle.wire_messages.specs.declared.Command.{Command}
use Rattle.wire_messages.specs.Options.{Amount}
use Rattle.wire_messages.specs.declared.Outcome.{Outcome}
use Rattle.device_store.specs.Quantities.{current_at}
unfoldable pub use Rattle.command_fields.specs.Fields.{reason_of}
unfoldable pub use Rattle.command_tests.specs.Content.{is_capped}
pub use Rattle.command_fields.specs.Fields.{stated, field_above}
use Rattle.command_by_quantity.specs.Says.{natural}

-- the results: "applied is false at 11 to 14"; the values are control state, limits, setpoints, currents
abbrev pub limit_outcome : ℕ → Bool → List ℤ → Outcome
limit_outcome n capped vs =
    Outcome.Limit (record {
      applied = eqb n 0;
      state = natural (get_or vs 0 (pos 0));
      consumption = stated (get_or vs 1 (pos 0));
      production = stated (get_or vs 2 (pos 0));
      reason = reason_of n capped;
    })

abbrev pub setpoint_outcome : List ℤ → Outcome
setpoint_outcome vs = Outcome.Setpoint (record { consumption = stated (get_or vs 3 (pos 0)); production = stated (get_or vs 4 (pos 0)) })

-- the current of phase p in direction d, and "the effective map for that direction"
abbrev pub current_in : List ℤ → ℕ → ℕ → Amount
current_in vs p d =
    cond (eqb d 0) (stated (get_or vs (1 + current_at p 0) (pos 0))) (stated (get_or vs (1 + current_at p 1) (pos 0)))

abbrev pub current_outcome : ℕ → List ℤ → Outcome
current_outcome d vs = Outcome.Current (record { a = current_in vs 0 d; b = current_in vs 1 d; c = current_in vs 2 d })

-- "The result stands at status 0, and for SetLimit also at 11 to 14"
unfoldable pub outcome_with : Command → ℕ → Bool → List ℤ → Outcome
outcome_with (Command.SetLimit m) n capped vs = cond (stands SET_LIMIT n) (limit_outcome n capped vs) Outcome.Nothing
outcome_with (Command.ClearLimit a) n capped vs = cond (eqb n 0) Outcome.Success Outcome.Nothing
outcome_with (Command.SetSetpoint m) n capped vs = cond (eqb n 0) (setpoint_outcome vs) Outcome.Nothing
outcome_with (Command.ClearSetpoint a) n capped vs = cond (eqb n 0) Outcome.Success Outcome.Nothing
outcome_with (Command.SetCurrentLimits m) n capped vs = cond (eqb n 0) (current_outcome m.direction vs) Outcome.Nothing
outcome_with (Command.ClearCurrentLimits a) n capped vs = cond (eqb n 0) Outcome.Success Outcome.Nothing
outcome_with (Command.Unserved m) n capped vs = Outcome.Nothing
