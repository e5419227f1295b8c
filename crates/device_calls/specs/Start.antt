-- Starting a device: settings that then stay.
use Rattle.std.specs.Prelude.{ℕ, false, cond, List, [], ◌∷◌}
use Rattle.device_store.specs.Sizes.{most}
use Rattle.device_store.specs.Words.{fresh}
use Rattle.device_rules.specs.Rules.{bad_settings}
use Rattle.device_calls.specs.Refusals.{first_of}
use Rattle.device_store.specs.declared.Settings.{Settings}
use Rattle.refusals.specs.Refusals.{BAD_SETTINGS}

-- "a fresh device that accepts neither limits nor setpoints, consumption only, failsafe duration 7,200, all else 0, none or no"; L5: phase
-- count "1 after a refused start"
abbrev pub refused_settings : Settings
refused_settings =
    record {
      directions = 0;
      limits = false;
      setpoints = false;
      minimum = 0;
      maxima = most ∷ most ∷ [];
      failsafe = 0 ∷ 0 ∷ [];
      duration = 7200;
      manager = false;
      phases = 1;
      currents = false;
    }

unfoldable pub start_number : Settings → ℕ
start_number s = first_of ((bad_settings s, BAD_SETTINGS) ∷ [])

unfoldable pub start_after : Settings → List ℕ
start_after s = fresh (cond (bad_settings s) refused_settings s)
