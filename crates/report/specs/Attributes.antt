-- What each condition of document 003 section 3.3 says of a device, and which attributes it must have.
use Rattle.std.specs.Prelude.{ℕ, Bool, true, false, not, ◌&&◌, cond, List, [], ◌∷◌, eqb}
use Rattle.report_tables.specs.Features.{FLEX, PROCESS, FORECAST, ASYMMETRIC, V2X}
use Rattle.report_tables.specs.Attributes.{optional, rows}
use Rattle.report_tables.specs.declared.attributes.Condition.{Condition}
use Rattle.report_tables.specs.declared.attributes.Row.{Row}
use Rattle.report.specs.Features.{bit}
use Rattle.report.specs.declared.Inputs.{Inputs}

-- directions PRODUCTION or BIDIRECTIONAL
abbrev pub produces : Inputs → Bool
produces i = not (eqb i.directions 0)

-- what each condition says of a device
unfoldable pub conditions : Inputs → Condition → Bool
conditions i Condition.Optional = false
conditions i Condition.Always = true
conditions i Condition.IfV2x = bit i.features V2X
conditions i Condition.IfProcess = bit i.features PROCESS
conditions i Condition.IfLimits = i.limits  -- acceptsLimits
conditions i Condition.IfLimitsOut = i.limits && produces i
conditions i Condition.IfAsymmetricCurrents = bit i.features ASYMMETRIC && i.currents  -- acceptsCurrentLimits
conditions i Condition.IfAsymmetricBoth = bit i.features ASYMMETRIC && eqb i.directions 2  -- BIDIRECTIONAL
conditions i Condition.IfSetpoints = i.setpoints  -- acceptsSetpoints
conditions i Condition.IfSetpointsOut = i.setpoints && produces i
conditions i Condition.IfFlex = bit i.features FLEX
conditions i Condition.IfForecast = bit i.features FORECAST
conditions i Condition.IfOut = produces i
conditions i Condition.IfProcessState = bit i.features PROCESS && i.process  -- processState is not NONE

-- the condition of the row that has the number n; optional where no row has it
unfoldable pub condition_in : List Row → ℕ → Condition
condition_in [] n = optional
condition_in (r ∷ rs) n = cond (eqb r.0 n) r.1 (condition_in rs n)

-- an attribute that the device must have
unfoldable pub mandatory : Inputs → ℕ → Bool
mandatory i n = conditions i (condition_in rows n)
