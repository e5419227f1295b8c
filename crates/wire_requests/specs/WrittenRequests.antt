-- Requests: the item written for one, and what is refused. Assumes nothing: these are definitions.
use Rattle.std.specs.Prelude.{ℕ, Bool, true, false, not, ◌&&◌, ◌||◌, [], ◌∷◌, ltb, None, Some}
use Rattle.std.proofs.Math.Option.{some}
use Rattle.wire_cbor.specs.Item.{Item}
use Rattle.refusals.specs.Refusals.{first_of, BAD_MESSAGE, NOT_SERVED}
use Rattle.wire_messages.specs.Numbers.{wire_number, served_at}
use Rattle.wire_messages.specs.Options.{Aim}
use Rattle.wire_messages.specs.Options.{Amount}
use Rattle.wire_messages.specs.declared.Command.{Command}
use Rattle.wire_messages.specs.declared.Request.{Request}
use Rattle.wire_fields.specs.Fields.{most32, aim_item, Fields, present}
use Rattle.wire_requests.specs.WrittenSettings.{setting_of_limits, setting_of_setpoints, setting_fields, current_limit_fields}

unfoldable pub command_fields : Command → Fields
command_fields (Command.SetLimit l) = setting_fields (setting_of_limits l)
command_fields (Command.ClearLimit a) = (1, aim_item a) ∷ []
command_fields (Command.SetSetpoint l) = setting_fields (setting_of_setpoints l)
command_fields (Command.ClearSetpoint a) = (1, aim_item a) ∷ []
command_fields (Command.SetCurrentLimits l) = current_limit_fields l
command_fields (Command.ClearCurrentLimits a) = (1, aim_item a) ∷ []
command_fields (Command.Unserved n) = []

unfoldable pub request_fields : Request → Fields
request_fields r =
    (1, some (Item.uint r.id)) ∷ (2, some (Item.uint r.endpoint)) ∷ (3, some (Item.uint r.feature))
    ∷ (4, some (Item.uint (wire_number r.command))) ∷ (5, some (Item.map (present (command_fields r.command)))) ∷ []

-- the item of a request
unfoldable pub request_item : Request → Item
request_item r = Item.map (present (request_fields r))

-- more than `most`; what is omitted is not
abbrev pub amount_wide : ℕ → Amount → Bool
amount_wide most None = false
amount_wide most (Some d) = ltb most d

abbrev pub aim_wide : Aim → Bool
aim_wide a = amount_wide 1 a

-- a duration that 32 bits do not hold; an omitted one is none
abbrev pub duration_wide : Amount → Bool
duration_wide a = amount_wide most32 a

-- a number of the command that the wire does not hold
unfoldable pub command_wide : Command → Bool
command_wide (Command.SetLimit l) = ltb most32 l.duration || ltb 255 l.cause
command_wide (Command.ClearLimit a) = aim_wide a
command_wide (Command.SetSetpoint l) = duration_wide l.duration || ltb 255 l.cause
command_wide (Command.ClearSetpoint a) = aim_wide a
command_wide (Command.SetCurrentLimits l) = ltb 1 l.direction || (ltb most32 l.duration || ltb 255 l.cause)
command_wide (Command.ClearCurrentLimits a) = aim_wide a
command_wide (Command.Unserved n) = ltb 65535 n

abbrev pub is_served : Command → Bool
is_served (Command.SetLimit l) = true
is_served (Command.ClearLimit a) = true
is_served (Command.SetSetpoint l) = true
is_served (Command.ClearSetpoint a) = true
is_served (Command.SetCurrentLimits l) = true
is_served (Command.ClearCurrentLimits a) = true
is_served (Command.Unserved n) = false

-- 3: "a value out of range"
unfoldable pub request_wide : Request → Bool
request_wide r = ltb most32 r.id || ltb 255 r.endpoint || ltb 65535 r.feature || command_wide r.command

-- 4: "what is not served"
unfoldable pub request_unserved : Request → Bool
request_unserved r = not (served_at r.endpoint r.feature && is_served r.command)

-- "Request writers answer 3 for a value out of range, then 4 for what is not served, then 15"; 15 is in Writing
unfoldable pub request_number : Request → ℕ
request_number r = first_of ((request_wide r, BAD_MESSAGE) ∷ (request_unserved r, NOT_SERVED) ∷ [])
