-- The history: what the accepted calls say. No device, no slot: each question is answered by the newest accepted call that speaks to it.
use Rattle.std.specs.Prelude.{ℕ, zero, suc, Bool, true, false, cond, List, [], ◌∷◌, eqb}
use Rattle.std.proofs.Math.Option.{Option, none, some, get_or}
use Rattle.wire_messages.specs.declared.Command.{Command}
use Rattle.device_store.specs.declared.Held.{Held}
use Rattle.device_store.specs.declared.Zone.{Zone}
use Rattle.device_store.specs.declared.Settings.{Settings}
use Rattle.command_effects.specs.declared.actions.Action.{Action}
use Rattle.device_store.specs.Sizes.{helds}
use Rattle.device_store.specs.Zones.{up_to, nothing, precedence_of}
use Rattle.device_holds.specs.Holds.{Situation}
use Rattle.device_holds.specs.Links.{since_after}
use Rattle.command_effects.specs.Effects.{action, until_of}
use Rattle.command_effects.specs.Says.{duration_of}

-- THE LOG
-- what an accepted call tells: a join its zone and rank, a link its zone and whether it is up, an override its number (0: cleared), a frame its command
pub data Told : Type 0 where
  joins : ℕ → ℕ → Told
  leaves : ℕ → Told
  links : ℕ → Bool → Told
  commands : ℕ → Command → Told
  overrides : ℕ → Told
  passes : Told

-- an accepted call: its time and what it tells
abbrev pub Entry : Type 0
Entry = ℕ × Told

-- the accepted calls, newest first
abbrev pub Log : Type 0
Log = List Entry

-- a call of zone z
unfoldable pub about : ℕ → Told → Bool
about z (joins y k) = eqb y z
about z (leaves y) = eqb y z
about z (links y u) = eqb y z
about z (commands y c) = eqb y z
about z (overrides o) = false
about z passes = false

-- THE QUESTIONS
-- what the newest call that speaks to a question says; d where none does
unfoldable pub newest : {A : Type 0} → (ℕ → Told → Option A) → A → Log → A
newest says d [] = d
newest says d (e ∷ h) = get_or (says e.0 e.1) (newest says d h)

-- what a call of zone y says is said of zone z only where they are one
unfoldable pub of : {A : Type 0} → ℕ → ℕ → Option A → Option A
of y z a = cond (eqb y z) a none

unfoldable pub says_joined : ℕ → ℕ → Told → Option Bool
says_joined z t (joins y k) = of y z (some true)
says_joined z t (leaves y) = of y z (some false)
says_joined z t (links y u) = none
says_joined z t (commands y c) = none
says_joined z t (overrides o) = none
says_joined z t passes = none

unfoldable pub says_rank : ℕ → ℕ → Told → Option ℕ
says_rank z t (joins y k) = of y z (some k)
says_rank z t (leaves y) = none
says_rank z t (links y u) = none
says_rank z t (commands y c) = none
says_rank z t (overrides o) = none
says_rank z t passes = none

-- "Joining brings the link up"
unfoldable pub says_up : ℕ → ℕ → Told → Option Bool
says_up z t (joins y k) = of y z (some true)
says_up z t (leaves y) = none
says_up z t (links y u) = of y z (some u)
says_up z t (commands y c) = none
says_up z t (overrides o) = none
says_up z t passes = none

-- a command speaks to a quantity that it removes or sets, with the end of what it sets
unfoldable pub said : Action → ℕ → Option Held
said Action.Keep end = none
said Action.Remove end = some nothing
said (Action.Put v) end = some (record { value = v; until = end })

-- "what its last accepted command set since it last joined": a join says that nothing is held
unfoldable pub says_held : Settings → ℕ → ℕ → ℕ → Told → Option Held
says_held s z q t (joins y k) = of y z (some nothing)
says_held s z q t (leaves y) = none
says_held s z q t (links y u) = none
says_held s z q t (commands y c) = of y z (said (action s c q) (until_of t (duration_of c)))
says_held s z q t (overrides o) = none
says_held s z q t passes = none

unfoldable pub says_override : ℕ → Told → Option ℕ
says_override t (joins y k) = none
says_override t (leaves y) = none
says_override t (links y u) = none
says_override t (commands y c) = none
says_override t (overrides o) = some o
says_override t passes = none

-- "Every accepted call moves the clock to its time"
unfoldable pub says_clock : ℕ → Told → Option ℕ
says_clock t e = some t

-- THE ANSWERS
unfoldable pub clock_by : Log → ℕ
clock_by h = newest says_clock 0 h

unfoldable pub override_by : Log → ℕ
override_by h = newest says_override 0 h

unfoldable pub joined_by : Log → ℕ → Bool
joined_by h z = newest (says_joined z) false h

unfoldable pub up_by : Log → ℕ → Bool
up_by h z = newest (says_up z) false h

unfoldable pub held_by : Settings → Log → ℕ → ℕ → Held
held_by s h z q = newest (says_held s z q) nothing h

unfoldable pub record_by : Settings → Log → ℕ → Zone
record_by s h z = record { precedence = precedence_of z (newest (says_rank z) 0 h); up = up_by h z; held = up_to (held_by s h z) helds }

-- the joined zones of ids 1 to n, "id 1 to 255"
unfoldable pub zones_to : Settings → Log → ℕ → List Zone
zones_to s h zero = []
zones_to s h (suc n) = cond (joined_by h (suc n)) (record_by s h (suc n) ∷ zones_to s h n) (zones_to s h n)

abbrev pub zones_by : Settings → Log → List Zone
zones_by s h = zones_to s h 255

-- the time of the accepted call before which a link was up and after which none is
unfoldable pub since_by : Settings → Log → ℕ
since_by s [] = 0
since_by s (e ∷ h) = since_after (zones_by s h) (zones_by s (e ∷ h)) e.0 (since_by s h)

abbrev pub situation_by : Settings → Log → Situation
situation_by s h = record { settings = s; zones = zones_by s h; since = since_by s h; override = override_by h }
