-- What holds at a second t: document 01's table of links, and the control state.
use Rattle.std.specs.Prelude.{ℕ, ◌+◌, Bool, false, cond, not, ◌&&◌, ◌||◌, List, ◌∷◌, ltb, eqb, get_or, set, ℤ, pos, None, Some}
use Rattle.refusals.specs.States.{AUTONOMOUS, CONTROLLED, LIMITED, FAILSAFE, OVERRIDE}
use Rattle.wire_messages.specs.Options.{Amount}
use Rattle.device_store.specs.Quantities.{helds, is_limit, is_setpoint, direction_of, supports}
use Rattle.device_store.specs.Sizes.{value_end}
use Rattle.device_store.specs.Zones.{up_to, any_joined, any_up}
use Rattle.device_store.specs.Words.{settings_of, zones_of, since_of, override_of}
use Rattle.device_store.specs.declared.Zone.{Zone}
use Rattle.device_store.specs.declared.Settings.{Settings}
pub use Rattle.device_claims.specs.Claim.{Claim, no_claim, amount_of}
unfoldable pub use Rattle.device_claims.specs.Claim.{claim_of, goes_before, better, winner}
unfoldable pub use Rattle.device_table.specs.Edges.{shown}
unfoldable pub use Rattle.device_table.specs.Smallest.{smallest_with}

-- What the table reads: settings, zones, since when no link is up, the override.
pub record Situation : Type 0 where
  pub settings : Settings
  pub zones : List Zone
  pub since : ℕ
  pub override : ℕ

abbrev pub situation_of : List ℕ → Situation
situation_of ws = record { settings = settings_of ws; zones = zones_of ws; since = since_of ws; override = override_of ws }

-- what would be read with another record in slot i; as it stands where there is no such slot
abbrev pub with_zone : Situation → ℕ → Zone → Situation
with_zone s i x = record { settings = s.settings; zones = set s.zones i x; since = s.since; override = s.override }

-- the second row: "zones joined, none up since second s, t < s + duration"
unfoldable pub in_failsafe : Situation → ℕ → Bool
in_failsafe s t = not (any_up s.zones) && (any_joined s.zones && ltb t (s.since + s.settings.duration))

-- the second row of a quantity: setpoints are absent, current limits hold on, without a failsafe limit of their own
unfoldable pub failsafe_value : Situation → ℕ → ℕ → Amount
failsafe_value s t q =
    cond (is_limit q) (Some (smallest_with (get_or s.settings.failsafe q 0) (winner t q s.zones)))
    (cond (is_setpoint q) None (amount_of (winner t q s.zones)))

-- the four rows; "an unsupported direction is always absent"
unfoldable pub value_at : Situation → ℕ → ℕ → Amount
value_at s t q =
    cond (supports s.settings.directions (direction_of q))
    (cond (any_up s.zones) (amount_of (winner t q s.zones))
    (cond (in_failsafe s t) (failsafe_value s t q) None))
    None

-- a number past the largest value, which no history stores, is none
unfoldable pub present : Amount → Bool
present None = false
present (Some v) = ltb v value_end

-- "FAILSAFE in the second row; else OVERRIDE if set; else LIMITED if a limit is present; else CONTROLLED if a zone is up; else AUTONOMOUS"; current limits do not count
unfoldable pub state_at : Situation → ℕ → ℕ
state_at s t =
    cond (in_failsafe s t) FAILSAFE
    (cond (not (eqb s.override 0)) OVERRIDE
    (cond (present (value_at s t 0) || present (value_at s t 1)) LIMITED
    (cond (any_up s.zones) CONTROLLED AUTONOMOUS)))

-- the values of a plan's row: control state, then each quantity
unfoldable pub values_at : Situation → ℕ → List ℤ
values_at s t = pos (state_at s t) ∷ up_to (λ q. shown (value_at s t q)) helds
