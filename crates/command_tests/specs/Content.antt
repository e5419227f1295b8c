-- What is asked of a command itself: 4, and 11 to 14. Assumes nothing: these are definitions.
use Rattle.std.specs.Prelude.{ℕ, Bool, true, false, not, ◌&&◌, ◌||◌, List, [], ◌∷◌, eqb, None, Some}
use Rattle.wire_messages.specs.Options.{Aim}
use Rattle.wire_messages.specs.declared.Command.{Command}
use Rattle.device_store.specs.Sizes.{helds}
use Rattle.device_store.specs.declared.Settings.{Settings}
use Rattle.device_store.specs.Quantities.{supports}
unfoldable pub use Rattle.command_fields.specs.Fields.{too_low}
use Rattle.command_fields.specs.Fields.{field_too_low, field_above}
use Rattle.command_tests.specs.Asked.{beyond, outside}
use Rattle.command_by_quantity.specs.declared.said.Kind.{Kind}
use Rattle.command_by_quantity.specs.Says.{says, kind_of, is_set, aim_of, top_of, some_of, field_names, field_negative}
use Rattle.refusals.specs.Refusals.{BAD_VALUE, BELOW_MINIMUM, NOT_SUPPORTED, OVERRIDDEN}

-- 4: the command is not served
abbrev pub of_none : Kind → Bool
of_none Kind.Limits = false
of_none Kind.Setpoints = false
of_none Kind.Currents = false
of_none Kind.Unserved = true

abbrev pub is_unserved : Command → Bool
is_unserved c = of_none (kind_of c)

-- 11: "limits or setpoints not accepted, or a named direction not supported"; L5: "whether current limits are accepted"; a clear without
-- direction names none
abbrev pub accepts : Settings → Kind → Bool
accepts s Kind.Limits = s.limits
accepts s Kind.Setpoints = s.setpoints
accepts s Kind.Currents = s.currents
accepts s Kind.Unserved = true

abbrev pub aim_unsupported : ℕ → Aim → Bool
aim_unsupported has None = false
aim_unsupported has (Some d) = not (supports has d)

unfoldable pub unsupported : Settings → Command → Bool
unsupported s c =
    not (accepts s (kind_of c))
    || (aim_unsupported s.directions (aim_of c) || (is_set c && some_of (λ q. beyond s.directions (says c q) q) helds))

-- 12: "SetLimit while an override is set"; L5: "an override set is 12 for command 5"
abbrev pub of_limits : Kind → Bool
of_limits Kind.Limits = true
of_limits Kind.Setpoints = false
of_limits Kind.Currents = true
of_limits Kind.Unserved = false

abbrev pub sets_limits : Command → Bool
sets_limits c = of_limits (kind_of c) && is_set c

-- 13: "a Set command with a negative value or naming neither direction"; L5: a phase "from the phase count up, a negative value or an empty map"
unfoldable pub invalid : Settings → Command → Bool
invalid s c =
    is_set c
    && (some_of (λ q. field_negative (says c q)) helds
    || (not (some_of (λ q. field_names (says c q)) helds)
    || some_of (λ q. outside s.phases (says c q) q) helds))

-- 14: "a consumption limit below the minimum". Quantity 0 is the consumption limit; a clear says no number
unfoldable pub below_the_minimum : Settings → Command → Bool
below_the_minimum s c = field_too_low s.minimum (says c 0)

-- what is asked of the command itself, once its zone is joined and up
abbrev pub content_tests : Settings → ℕ → Command → List (Bool × ℕ)
content_tests s override c =
    (unsupported s c, NOT_SUPPORTED) ∷ (sets_limits c && not (eqb override 0), OVERRIDDEN) ∷ (invalid s c, BAD_VALUE) ∷ (below_the_minimum s c, BELOW_MINIMUM) ∷ []

-- some number is above the most that its quantity may be: "above contractual 1 (status 0)"
unfoldable pub is_capped : Settings → Command → Bool
is_capped s c = some_of (λ q. field_above (top_of s q) (says c q)) helds
