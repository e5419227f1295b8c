-- Every number is the largest word, which stands for no claim.
use mathlib.Core.Path.{refl}
use Rattle.device_claims.proofs.Claims.{none-lowest_values}
use Rattle.device_claims.proofs.passes.no_lowest_values.Goals as goal

pub returns : goal.returns
returns c =
    record {
      lowest_values_met = none-lowest_values _;
      next_value = refl;
    }
