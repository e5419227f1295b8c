-- The held values worked over field by field. Assumes nothing: these are definitions.
use Rattle.std.specs.Prelude.{ℕ, ◌+◌, List, get_or, set}
use Rattle.wire_messages.specs.declared.Field.{Field}
use Rattle.wire_messages.specs.declared.Phases.{Phases}
use Rattle.wire_messages.specs.declared.Command.{Command}
use Rattle.device_store.specs.Sizes.{helds}
use Rattle.device_store.specs.Zones.{up_to, nothing}
use Rattle.device_store.specs.declared.Held.{Held}
use Rattle.device_store.specs.declared.Settings.{Settings}
use Rattle.command_effects.specs.Obeys.{field_action, action, done}
use Rattle.command_by_quantity.specs.Says.{top_of}

-- what a field of quantity q leaves held of it
abbrev pub left_by : Settings → Field → ℕ → ℕ → Held → Held
left_by s f q end h = done (field_action (top_of s q) f) end h

-- and in its place among the others
abbrev pub with_field : Settings → Field → ℕ → ℕ → List Held → List Held → List Held
with_field s f q end old hs = set hs q (left_by s f q end (get_or old q nothing))

-- two fields side by side; three phases, which stand two apart
unfoldable pub with_two : Settings → Field → Field → ℕ → ℕ → List Held → List Held
with_two s a b q end hs = with_field s b (q + 1) end hs (with_field s a q end hs hs)

unfoldable pub with_phases : Settings → Phases → ℕ → ℕ → List Held → List Held
with_phases s m q end hs = with_field s m.c (q + 4) end hs (with_field s m.b (q + 2) end hs (with_field s m.a q end hs hs))

abbrev pub all_phases : Field → Phases
all_phases f = record { a = f; b = f; c = f }

-- what a command leaves, by quantity
unfoldable pub helds_after : Settings → Command → ℕ → List Held → List Held
helds_after s c end hs = up_to (λ q. done (action s c q) end (get_or hs q nothing)) helds
