-- Document 01's example of a bench script with its clock move, and the whole output. Assumes nothing: these are definitions and one statement.
use Rattle.std.specs.Prelude.{ℕ, ◌≡◌, List, [], ◌∷◌, ◌++◌}
use Rattle.bench_script.specs.Bench.{bench_text}

-- "join 3 rank 1 at 100"
abbrev pub join3 : List ℕ
join3 = 0x4D ∷ 0x48 ∷ 0x01 ∷ 0x03 ∷ 0x00 ∷ 0x00 ∷ 0x00 ∷ 0x64 ∷ 0x00 ∷ 0x01 ∷ 0x01 ∷ []

-- "join 9 rank 2 at 100"
abbrev pub join9 : List ℕ
join9 = 0x4D ∷ 0x48 ∷ 0x01 ∷ 0x09 ∷ 0x00 ∷ 0x00 ∷ 0x00 ∷ 0x64 ∷ 0x00 ∷ 0x01 ∷ 0x02 ∷ []

-- "zone 3 at 100, SetLimit consumption 11,040,000 for 60"
abbrev pub frame3 : List ℕ
frame3 =
    0x00 ∷ 0x00 ∷ 0x00 ∷ 0x16 ∷ 0xA5 ∷ 0x01 ∷ 0x01 ∷ 0x02 ∷ 0x01 ∷ 0x03 ∷ 0x05 ∷ 0x04 ∷ 0x01 ∷ 0x05 ∷ 0xA3 ∷ 0x01 ∷ 0x1A ∷ 0x00 ∷ 0xA8 ∷ 0x75
    ∷ 0x00 ∷ 0x03 ∷ 0x18 ∷ 0x3C ∷ 0x04 ∷ 0x00 ∷ []

abbrev pub limit3 : List ℕ
limit3 = 0x4D ∷ 0x48 ∷ 0x05 ∷ 0x03 ∷ 0x00 ∷ 0x00 ∷ 0x00 ∷ 0x64 ∷ 0x00 ∷ 0x1A ∷ frame3

-- "zone 9 at 100, 4,600,000 for 20"
abbrev pub frame9 : List ℕ
frame9 =
    0x00 ∷ 0x00 ∷ 0x00 ∷ 0x15 ∷ 0xA5 ∷ 0x01 ∷ 0x02 ∷ 0x02 ∷ 0x01 ∷ 0x03 ∷ 0x05 ∷ 0x04 ∷ 0x01 ∷ 0x05 ∷ 0xA3 ∷ 0x01 ∷ 0x1A ∷ 0x00 ∷ 0x46 ∷ 0x30
    ∷ 0xC0 ∷ 0x03 ∷ 0x14 ∷ 0x04 ∷ 0x00 ∷ []

abbrev pub limit9 : List ℕ
limit9 = 0x4D ∷ 0x48 ∷ 0x05 ∷ 0x09 ∷ 0x00 ∷ 0x00 ∷ 0x00 ∷ 0x64 ∷ 0x00 ∷ 0x19 ∷ frame9

-- "a clock move to 110 before its plan"
abbrev pub move_to : List ℕ
move_to = 0x4D ∷ 0x48 ∷ 0x09 ∷ 0x00 ∷ 0x00 ∷ 0x00 ∷ 0x00 ∷ 0x6E ∷ 0x00 ∷ 0x00 ∷ []

-- "plan at 110"
abbrev pub plan_at : List ℕ
plan_at = 0x4D ∷ 0x48 ∷ 0x06 ∷ 0x00 ∷ 0x00 ∷ 0x00 ∷ 0x00 ∷ 0x6E ∷ 0x00 ∷ 0x00 ∷ []

-- the six records
abbrev pub example_script : List ℕ
example_script = join3 ++ join9 ++ limit3 ++ limit9 ++ move_to ++ plan_at

-- six lines of 0: "its output one more line `0`"
abbrev pub zeros : List ℕ
zeros = 48 ∷ 10 ∷ 48 ∷ 10 ∷ 48 ∷ 10 ∷ 48 ∷ 10 ∷ 48 ∷ 10 ∷ 48 ∷ 10 ∷ []

-- "120 2 11040000 - - - - - - - - -"
abbrev pub row120 : List ℕ
row120 =
    49 ∷ 50 ∷ 48 ∷ 32 ∷ 50 ∷ 32 ∷ 49 ∷ 49 ∷ 48 ∷ 52 ∷ 48 ∷ 48 ∷ 48 ∷ 48 ∷ 32 ∷ 45 ∷ 32 ∷ 45 ∷ 32 ∷ 45 ∷ 32 ∷ 45 ∷ 32 ∷ 45 ∷ 32 ∷ 45 ∷ 32 ∷ 45 ∷ 32 ∷ 45 ∷ 32 ∷ 45 ∷ 10 ∷ []

-- "160 1 - - - - - - - - - -"
abbrev pub row160 : List ℕ
row160 =
    49 ∷ 54 ∷ 48 ∷ 32 ∷ 49 ∷ 32 ∷ 45 ∷ 32 ∷ 45 ∷ 32 ∷ 45 ∷ 32 ∷ 45 ∷ 32 ∷ 45 ∷ 32 ∷ 45 ∷ 32 ∷ 45 ∷ 32 ∷ 45 ∷ 32 ∷ 45 ∷ 32 ∷ 45 ∷ 10 ∷ []

-- "The whole output"
abbrev pub BenchExample : Type 0
BenchExample = bench_text example_script ≡ zeros ++ row120 ++ row160
