-- Document 002: the twenty-four attributes of Measurement by number, places and kind, and the range of each kind. Assumes nothing: these are definitions.
use Rattle.std.specs.Prelude.{ℕ, ◌+◌, ◌-◌, ◌^◌, List, [], ◌∷◌, get_or}
use Rattle.measurement_table.specs.declared.attributes.Row.{Row}
use Rattle.wire_fields.specs.Ranges.{range, signed_bits, up_to_most}
use Rattle.wire_fields.specs.declared.ranges.Range.{Range}

-- THE KINDS: numbers of w signed bits, of w bits, and those with a range of their own
abbrev pub int64 : ℕ
int64 = 0

abbrev pub uint64 : ℕ
uint64 = 1

abbrev pub uint32 : ℕ
uint32 = 2

abbrev pub int16 : ℕ
int16 = 3

-- "a power factor outside -1,000 to 1,000" is refused
abbrev pub factor : ℕ
factor = 4

-- "a state of charge or health above 100" is refused
abbrev pub percent : ℕ
percent = 5

-- those of w bits
abbrev pub unsigned_bits : ℕ → Range
unsigned_bits w = up_to_most (2 ^ w - 1)

unfoldable pub ranges : List Range
ranges = signed_bits 64 ∷ unsigned_bits 64 ∷ unsigned_bits 32 ∷ signed_bits 16 ∷ range 1000 1000 ∷ up_to_most 100 ∷ []

-- the range of a kind
unfoldable pub range_of : ℕ → Range
range_of k = get_or ranges k (range 0 0)

-- THE TABLE: one number, or one for each of three phases (or pairs of phases)
abbrev pub single : ℕ → ℕ → Row
single n k = (n, 1, k)

abbrev pub phased : ℕ → ℕ → Row
phased n k = (n, 3, k)

abbrev pub no_row : Row
no_row = (0, 0, 0)

unfoldable pub rows : List Row
rows =
    single 1 int64  -- acActivePower
    ∷ single 2 int64  -- acReactivePower
    ∷ single 3 uint64  -- acApparentPower
    ∷ phased 10 int64  -- acActivePowerPerPhase
    ∷ phased 11 int64  -- acReactivePowerPerPhase
    ∷ phased 12 int64  -- acApparentPowerPerPhase
    ∷ phased 20 int64  -- acCurrentPerPhase
    ∷ phased 21 uint32  -- acVoltagePerPhase
    ∷ phased 22 uint32  -- acVoltagePhaseToPhasePair
    ∷ single 23 uint32  -- acFrequency
    ∷ single 24 factor  -- powerFactor
    ∷ single 30 uint64  -- acEnergyConsumed
    ∷ single 31 uint64  -- acEnergyProduced
    ∷ single 40 int64  -- dcPower
    ∷ single 41 int64  -- dcCurrent
    ∷ single 42 uint32  -- dcVoltage
    ∷ single 43 uint64  -- dcEnergyIn
    ∷ single 44 uint64  -- dcEnergyOut
    ∷ single 50 percent  -- stateOfCharge
    ∷ single 51 percent  -- stateOfHealth
    ∷ single 52 uint64  -- stateOfEnergy
    ∷ single 53 uint64  -- useableCapacity
    ∷ single 54 uint32  -- cycleCount
    ∷ single 60 int16  -- temperature
    ∷ []

-- how many places the rows of a table have
unfoldable pub places : List Row → ℕ
places [] = 0
places (r ∷ rs) = r.1 + places rs
