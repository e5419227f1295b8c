-- Document 003 section 2.3, by endpoint type (document 000): the bits that must be set, and those that must not.
use Rattle.std.specs.Prelude.{ℕ, ◌+◌, ◌^◌, List, [], ◌∷◌, get_or}
use Rattle.report_tables.specs.Features.{CORE, FLEX, BATTERY, EMOB, PROCESS, V2X, all_bits}

-- endpoint types
abbrev pub types : ℕ
types = 11

-- the column "Required Bits"; types 8, 9 and 10 have no row there
unfoldable pub required : List (List ℕ)
required =
    []  -- 0 DEVICE_ROOT
    ∷ (CORE ∷ [])  -- 1 GRID_CONNECTION
    ∷ (CORE ∷ [])  -- 2 INVERTER
    ∷ (CORE ∷ [])  -- 3 PV_STRING
    ∷ (CORE ∷ BATTERY ∷ [])  -- 4 BATTERY
    ∷ (CORE ∷ EMOB ∷ [])  -- 5 EV_CHARGER
    ∷ (CORE ∷ [])  -- 6 HEAT_PUMP
    ∷ (CORE ∷ [])  -- 7 WATER_HEATER
    ∷ []  -- 8 HVAC
    ∷ []  -- 9 APPLIANCE
    ∷ []  -- 10 SUB_METER
    ∷ []

-- the column "Invalid Bits"; DEVICE_ROOT forbids all eleven
unfoldable pub invalid : List (List ℕ)
invalid =
    all_bits  -- 0 DEVICE_ROOT
    ∷ (BATTERY ∷ EMOB ∷ V2X ∷ FLEX ∷ PROCESS ∷ [])  -- 1 GRID_CONNECTION
    ∷ (BATTERY ∷ EMOB ∷ V2X ∷ [])  -- 2 INVERTER
    ∷ (BATTERY ∷ EMOB ∷ V2X ∷ FLEX ∷ PROCESS ∷ [])  -- 3 PV_STRING
    ∷ (EMOB ∷ V2X ∷ [])  -- 4 BATTERY
    ∷ (BATTERY ∷ [])  -- 5 EV_CHARGER
    ∷ (BATTERY ∷ EMOB ∷ V2X ∷ [])  -- 6 HEAT_PUMP
    ∷ (BATTERY ∷ EMOB ∷ V2X ∷ [])  -- 7 WATER_HEATER
    ∷ []  -- 8 HVAC
    ∷ []  -- 9 APPLIANCE
    ∷ []  -- 10 SUB_METER
    ∷ []

-- a type's cell of a column
abbrev pub bits_of : List (List ℕ) → ℕ → List ℕ
bits_of column type = get_or column type []

-- a set of bits as a map
abbrev pub mask : List ℕ → ℕ
mask [] = 0
mask (b ∷ bs) = 2 ^ b + mask bs
