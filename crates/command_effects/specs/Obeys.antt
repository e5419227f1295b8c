-- What a command leaves held. Assumes nothing: these are definitions.
use Rattle.std.specs.Prelude.{ℕ, min}
use Rattle.wire_messages.specs.declared.Field.{Field}
use Rattle.wire_messages.specs.declared.Command.{Command}
use Rattle.device_store.specs.Sizes.{helds}
use Rattle.device_store.specs.Zones.{up_to, nothing, holding, held_of}
use Rattle.device_store.specs.declared.Held.{Held}
use Rattle.device_store.specs.declared.Zone.{Zone}
use Rattle.device_store.specs.declared.Settings.{Settings}
unfoldable pub use Rattle.command_fields.specs.Durations.{until_of}
use Rattle.command_effects.specs.declared.actions.Action.{Action}
use Rattle.command_by_quantity.specs.Says.{says, duration_of, top_of, natural}

-- "A limit above the contractual maximum is stored as that maximum"
unfoldable pub field_action : ℕ → Field → Action
field_action top Field.Absent = Action.Keep
field_action top Field.Null = Action.Remove
field_action top (Field.Value v) = Action.Put (min top (natural v))

-- what a command does to quantity q
unfoldable pub action : Settings → Command → ℕ → Action
action s c q = field_action (top_of s q) (says c q)

-- a value is replaced together with its end
unfoldable pub done : Action → ℕ → Held → Held
done Action.Keep end h = h
done Action.Remove end h = nothing
done (Action.Put v) end h = record { value = v; until = end }

-- the zone's record once it has obeyed
unfoldable pub obeyed : Settings → Command → ℕ → Zone → Zone
obeyed s c t x = holding x (up_to (λ q. done (action s c q) (until_of t (duration_of c)) (held_of x q)) helds)
