-- Document 003 section 3.3: the thirty-three EnergyControl attributes by number and condition.
use Rattle.std.specs.Prelude.{ℕ, List, [], ◌∷◌}
use Rattle.report_tables.specs.declared.attributes.Condition.{Condition}
use Rattle.report_tables.specs.declared.attributes.Row.{Row}

-- the conditions
abbrev pub optional : Condition
optional = Condition.Optional

abbrev pub always : Condition
always = Condition.Always

abbrev pub if_v2x : Condition
if_v2x = Condition.IfV2x

abbrev pub if_process : Condition
if_process = Condition.IfProcess

abbrev pub if_limits : Condition
if_limits = Condition.IfLimits

abbrev pub if_limits_out : Condition
if_limits_out = Condition.IfLimitsOut

abbrev pub if_asymmetric_currents : Condition
if_asymmetric_currents = Condition.IfAsymmetricCurrents

abbrev pub if_asymmetric_both : Condition
if_asymmetric_both = Condition.IfAsymmetricBoth

abbrev pub if_setpoints : Condition
if_setpoints = Condition.IfSetpoints

abbrev pub if_setpoints_out : Condition
if_setpoints_out = Condition.IfSetpointsOut

abbrev pub if_flex : Condition
if_flex = Condition.IfFlex

abbrev pub if_forecast : Condition
if_forecast = Condition.IfForecast

abbrev pub if_out : Condition
if_out = Condition.IfOut

abbrev pub if_process_state : Condition
if_process_state = Condition.IfProcessState

abbrev row : ℕ → Condition → Row
row n c = (n, c)

abbrev pub no_row : Row
no_row = row 0 optional

abbrev pub row_count : ℕ
row_count = 33

-- the table, in its order
unfoldable pub rows : List Row
rows =
    row 1 always  -- deviceType
    ∷ row 2 always  -- controlState
    ∷ row 3 optional  -- optOutState
    ∷ row 10 always  -- acceptsLimits
    ∷ row 11 always  -- acceptsCurrentLimits
    ∷ row 12 always  -- acceptsSetpoints
    ∷ row 13 if_v2x  -- acceptsCurrentSetpoints
    ∷ row 14 always  -- isPausable
    ∷ row 15 optional  -- isShiftable
    ∷ row 16 if_process  -- isStoppable
    ∷ row 20 if_limits  -- effectiveConsumptionLimit
    ∷ row 21 if_limits  -- myConsumptionLimit
    ∷ row 22 if_limits_out  -- effectiveProductionLimit
    ∷ row 23 if_limits_out  -- myProductionLimit
    ∷ row 30 if_asymmetric_currents  -- effectiveCurrentLimitsConsumption
    ∷ row 31 if_asymmetric_currents  -- myCurrentLimitsConsumption
    ∷ row 32 if_asymmetric_both  -- effectiveCurrentLimitsProduction
    ∷ row 33 if_asymmetric_both  -- myCurrentLimitsProduction
    ∷ row 40 if_setpoints  -- effectiveConsumptionSetpoint
    ∷ row 41 if_setpoints  -- myConsumptionSetpoint
    ∷ row 42 if_setpoints_out  -- effectiveProductionSetpoint
    ∷ row 43 if_setpoints_out  -- myProductionSetpoint
    ∷ row 50 if_v2x  -- effectiveCurrentSetpointsConsumption
    ∷ row 51 if_v2x  -- myCurrentSetpointsConsumption
    ∷ row 52 if_v2x  -- effectiveCurrentSetpointsProduction
    ∷ row 53 if_v2x  -- myCurrentSetpointsProduction
    ∷ row 60 if_flex  -- flexibility
    ∷ row 61 if_forecast  -- forecast
    ∷ row 70 always  -- failsafeConsumptionLimit
    ∷ row 71 if_out  -- failsafeProductionLimit
    ∷ row 72 always  -- failsafeDuration
    ∷ row 80 if_process  -- processState
    ∷ row 81 if_process_state  -- optionalProcess
    ∷ []
