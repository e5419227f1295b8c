-- The settings that a start's twelve numbers say. Assumes nothing: this is a definition.
use Rattle.std.specs.Prelude.{ℕ, List, [], ◌∷◌, eqb, get_or}
use Rattle.device_store.specs.declared.Settings.{Settings}

-- directions, whether limits and setpoints are accepted, the minimum, two maxima, two failsafe limits, the duration, whether it is a manager,
-- the phase count, whether current limits are accepted
unfoldable pub settings_in : List ℕ → Settings
settings_in f =
    record {
      directions = get_or f 0 0;
      limits = eqb (get_or f 1 0) 1;
      setpoints = eqb (get_or f 2 0) 1;
      minimum = get_or f 3 0;
      maxima = get_or f 4 0 ∷ get_or f 5 0 ∷ [];
      failsafe = get_or f 6 0 ∷ get_or f 7 0 ∷ [];
      duration = get_or f 8 0;
      manager = eqb (get_or f 9 0) 1;
      phases = get_or f 10 0;
      currents = eqb (get_or f 11 0) 1;
    }
