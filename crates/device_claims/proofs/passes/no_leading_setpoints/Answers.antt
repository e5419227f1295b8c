-- Every precedence and number is the largest word, which stands for no claim.
use mathlib.Core.Path.{refl}
use Rattle.device_claims.proofs.Claims.{none-leading_setpoints}
use Rattle.device_claims.proofs.passes.no_leading_setpoints.Goals as goal

pub returns : goal.returns
returns c =
    record {
      leading_setpoints_met = none-leading_setpoints _;
      next_value = refl;
    }
