-- Settings and inputs as words, one number each, in the order of the header's structs; a yes is any word but 0.
use Rattle.std.specs.Prelude.{ℕ, List, [], ◌∷◌}
use Rattle.kernel.specs.Door.{Settings, Inputs}
use Rattle.capi_fields.specs.Words.{at, yes}

-- pairs go by direction: consumption, then production
unfoldable pub settings_of : List ℕ → Settings
settings_of ws =
    record {
      directions = at ws 0;
      limits = yes ws 1;
      setpoints = yes ws 2;
      minimum = at ws 3;
      maxima = at ws 4 ∷ at ws 5 ∷ [];
      failsafe = at ws 6 ∷ at ws 7 ∷ [];
      duration = at ws 8;
      manager = yes ws 9;
      phases = at ws 10;
      currents = yes ws 11;
    }

unfoldable pub inputs_of : List ℕ → Inputs
inputs_of ws =
    record {
      endpoint = at ws 0;
      features = at ws 1;
      phases = at ws 2;
      directions = at ws 3;
      limits = yes ws 4;
      currents = yes ws 5;
      setpoints = yes ws 6;
      process = yes ws 7;
    }
