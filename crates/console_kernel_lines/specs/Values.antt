-- The values of a record, in the order of a plan's row. Assumes nothing: this is a definition.
use Rattle.std.specs.Prelude.{List, [], ◌∷◌, ℤ}
use Rattle.plan_plain.specs.declared.Row.{Row}

-- the control state, the limits, the setpoints, then the currents phase by phase, consumption first
unfoldable pub values_in : Row → List ℤ
values_in r =
    r.state
    ∷ r.limitConsumption
    ∷ r.limitProduction
    ∷ r.setpointConsumption
    ∷ r.setpointProduction
    ∷ r.aConsumption
    ∷ r.aProduction
    ∷ r.bConsumption
    ∷ r.bProduction
    ∷ r.cConsumption
    ∷ r.cProduction
    ∷ []
