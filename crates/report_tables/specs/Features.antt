-- The feature map (document 003 section 1): its eleven bits by number, and the maps that they make.
use Rattle.std.specs.Prelude.{ℕ, ◌^◌, List, [], ◌∷◌}

abbrev pub bits : ℕ
bits = 11

abbrev pub maps : ℕ
maps = 2 ^ bits

abbrev pub CORE : ℕ
CORE = 0

abbrev pub FLEX : ℕ
FLEX = 1

abbrev pub BATTERY : ℕ
BATTERY = 2

abbrev pub EMOB : ℕ
EMOB = 3

abbrev pub SIGNALS : ℕ
SIGNALS = 4

abbrev pub TARIFF : ℕ
TARIFF = 5

abbrev pub PLAN : ℕ
PLAN = 6

abbrev pub PROCESS : ℕ
PROCESS = 7

abbrev pub FORECAST : ℕ
FORECAST = 8

abbrev pub ASYMMETRIC : ℕ
ASYMMETRIC = 9

abbrev pub V2X : ℕ
V2X = 10

abbrev pub all_bits : List ℕ
all_bits = CORE ∷ FLEX ∷ BATTERY ∷ EMOB ∷ SIGNALS ∷ TARIFF ∷ PLAN ∷ PROCESS ∷ FORECAST ∷ ASYMMETRIC ∷ V2X ∷ []
