-- The bench program's device. Assumes nothing: this is a definition.
use Rattle.std.specs.Prelude.{true, false, [], ◌∷◌}
use Rattle.device_store.specs.Sizes.{most}
use Rattle.device_store.specs.declared.Settings.{Settings}

-- "Its device: both directions, all accepted, minimum 1,380,000, contractual maxima 43,000,000 and none, failsafe 4,200,000 and 0, 7,200 s, no energy manager";
-- "The bench accepts all phases"
abbrev pub bench_settings : Settings
bench_settings =
    record {
      directions = 2;
      limits = true;
      setpoints = true;
      minimum = 1380000;
      maxima = 43000000 ∷ most ∷ [];
      failsafe = 4200000 ∷ 0 ∷ [];
      duration = 7200;
      manager = false;
      phases = 3;
      currents = true;
    }
