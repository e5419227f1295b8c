-- Responses: the item written for one, and what is refused. Assumes nothing: these are definitions.
use Rattle.std.specs.Prelude.{ℕ, Bool, true, false, cond, not, ◌&&◌, ◌||◌, [], ◌∷◌, leb, eqb, None, Some}
use Rattle.std.proofs.Math.Option.{Option, some, none}
use Rattle.wire_cbor.specs.Item.{Item}
use Rattle.wire_messages.specs.Numbers.{served_command}
use Rattle.refusals.specs.Refusals.{first_of, BAD_MESSAGE, NOT_SERVED}
use Rattle.wire_messages.specs.Options.{Amount}
use Rattle.wire_messages.specs.declared.LimitResult.{LimitResult}
use Rattle.wire_messages.specs.declared.SetpointResult.{SetpointResult}
use Rattle.wire_messages.specs.declared.CurrentResult.{CurrentResult}
use Rattle.wire_messages.specs.declared.Outcome.{Outcome}
use Rattle.wire_messages.specs.declared.Response.{Response}
use Rattle.wire_fields.specs.Fields.{most32, most_value, truth_item, amount_item, map_item, Fields, present}
use Rattle.wire_fields.specs.ByPhase.{currents_item}
use Rattle.wire_responses.specs.Responses.{is_status, stands}

unfoldable pub limit_fields : LimitResult → Fields
limit_fields l =
    (1, some (truth_item l.applied)) ∷ (2, some (Item.uint l.state)) ∷ (3, amount_item l.consumption) ∷ (4, amount_item l.production)
    ∷ (5, amount_item l.reason) ∷ []

unfoldable pub setpoint_fields : SetpointResult → Fields
setpoint_fields l = (1, some (truth_item true)) ∷ (2, amount_item l.consumption) ∷ (3, amount_item l.production) ∷ []

-- "the map written even when empty"
unfoldable pub current_fields : CurrentResult → Fields
current_fields l = (1, some (truth_item true)) ∷ (2, currents_item l) ∷ []

unfoldable pub clear_fields : Fields
clear_fields = (1, some (truth_item true)) ∷ []

unfoldable pub outcome_item : Outcome → Option Item
outcome_item Outcome.Nothing = none
outcome_item (Outcome.Limit l) = map_item (limit_fields l)
outcome_item (Outcome.Setpoint l) = map_item (setpoint_fields l)
outcome_item (Outcome.Current l) = map_item (current_fields l)
outcome_item Outcome.Success = map_item clear_fields

unfoldable pub response_fields : Response → Fields
response_fields r = (1, some (Item.uint r.id)) ∷ (2, some (Item.uint r.status)) ∷ (3, outcome_item r.outcome) ∷ []

-- the item of a response
unfoldable pub response_item : Response → Item
response_item r = Item.map (present (response_fields r))

abbrev pub amount_up_to : ℕ → Amount → Bool
amount_up_to most None = true
amount_up_to most (Some v) = leb v most

unfoldable pub limit_in_range : LimitResult → Bool
limit_in_range l =
    leb l.state 4 && (amount_up_to most_value l.consumption && (amount_up_to most_value l.production && amount_up_to 4 l.reason))

unfoldable pub setpoint_in_range : SetpointResult → Bool
setpoint_in_range l = amount_up_to most_value l.consumption && amount_up_to most_value l.production

unfoldable pub current_in_range : CurrentResult → Bool
current_in_range l = amount_up_to most_value l.a && (amount_up_to most_value l.b && amount_up_to most_value l.c)

-- a result of that command, its values in range
unfoldable pub goes_with : ℕ → Outcome → Bool
goes_with command Outcome.Nothing = false
goes_with command (Outcome.Limit l) = eqb command 1 && limit_in_range l
goes_with command (Outcome.Setpoint l) = eqb command 3 && setpoint_in_range l
goes_with command (Outcome.Current l) = eqb command 5 && current_in_range l
goes_with command Outcome.Success = eqb command 2 || eqb command 4 || eqb command 6

abbrev pub is_nothing : Outcome → Bool
is_nothing Outcome.Nothing = true
is_nothing (Outcome.Limit l) = false
is_nothing (Outcome.Setpoint l) = false
is_nothing (Outcome.Current l) = false
is_nothing Outcome.Success = false

-- the result stands exactly where it should, and is the command's
unfoldable pub fits : ℕ → ℕ → Outcome → Bool
fits command status o = cond (stands command status) (goes_with command o) (is_nothing o)

-- 3 unless: the id in range, a status, and a result that goes with the command and the status
unfoldable pub response_fits : ℕ → Response → Bool
response_fits command r = leb r.id most32 && (is_status r.status && fits command r.status r.outcome)

-- 4, 3; 15 is in Writing
unfoldable pub response_number : ℕ → Response → ℕ
response_number command r = first_of ((not (served_command command), NOT_SERVED) ∷ (not (response_fits command r), BAD_MESSAGE) ∷ [])

-- a response with a status and no result: the same for every command
abbrev pub status_alone : ℕ → ℕ → Response
status_alone i status = record { id = i; status = status; outcome = Outcome.Nothing }
