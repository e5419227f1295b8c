-- Devices and their whole reports: a sound one of each endpoint type, and one that breaks each group alone.
use Rattle.std.specs.Prelude.{ℕ, Bool, true, false, ◌≡◌, List, [], ◌∷◌, map}
use Rattle.report.specs.Rules.{breaches}
use Rattle.report.specs.Report.{in_range, flat}
use Rattle.report.specs.declared.Inputs.{Inputs}

-- type, feature map, phases, directions, accepts limits, current limits, setpoints; no process
abbrev device : ℕ → ℕ → ℕ → ℕ → Bool → Bool → Bool → Inputs
device t m p d l c s =
    record { endpoint = t; features = m; phases = p; directions = d; limits = l; currents = c; setpoints = s; process = false }

-- what every device that takes part has to list
abbrev base : List ℕ
base = 1 ∷ 2 ∷ 10 ∷ 11 ∷ 12 ∷ 14 ∷ 70 ∷ 72 ∷ []

-- a device, its attributes, and its report as numbers
unfoldable pub examples : List (Inputs × List ℕ × List ℕ)
examples =
    (device 0 0 1 0 false false false, [], [])
    ∷ (device 1 1 3 2 false false false, 1 ∷ 2 ∷ 10 ∷ 11 ∷ 12 ∷ 14 ∷ 70 ∷ 71 ∷ 72 ∷ [], [])
    ∷ (device 2 1 3 0 false false false, base, [])
    ∷ (device 3 257 1 0 false false false, 1 ∷ 2 ∷ 10 ∷ 11 ∷ 12 ∷ 14 ∷ 61 ∷ 70 ∷ 72 ∷ [], [])
    ∷ (device 4 5 3 0 false false false, base, [])
    ∷ (
      device 5 1545 3 2 false false true,
      1 ∷ 2 ∷ 10 ∷ 11 ∷ 12 ∷ 13 ∷ 14 ∷ 32 ∷ 33 ∷ 40 ∷ 41 ∷ 42 ∷ 43 ∷ 50 ∷ 51 ∷ 52 ∷ 53 ∷ 70 ∷ 71 ∷ 72 ∷ [],
      [],
    )
    ∷ (device 6 1 1 0 true false false, 1 ∷ 2 ∷ 10 ∷ 11 ∷ 12 ∷ 14 ∷ 20 ∷ 21 ∷ 70 ∷ 72 ∷ [], [])
    ∷ (device 7 129 1 0 false false false, 1 ∷ 2 ∷ 10 ∷ 11 ∷ 12 ∷ 14 ∷ 16 ∷ 70 ∷ 72 ∷ 80 ∷ [], [])
    ∷ (device 8 113 2 0 false true false, base, [])
    ∷ (device 9 0 1 0 false true false, base, [])
    ∷ (device 10 1 3 0 false false false, base, [])
    ∷ (device 8 2 1 0 false false false, 1 ∷ 2 ∷ 10 ∷ 11 ∷ 12 ∷ 14 ∷ 60 ∷ 70 ∷ 72 ∷ [], 1 ∷ 1 ∷ [])
    ∷ (device 8 13 1 0 false false false, base, 2 ∷ 2 ∷ [])
    ∷ (device 2 513 1 0 false false false, base, 3 ∷ 9 ∷ [])
    ∷ (device 4 1 1 0 false false false, base, 4 ∷ 2 ∷ [])
    ∷ (device 2 9 1 0 false false false, base, 5 ∷ 3 ∷ [])
    ∷ (device 1 1 1 0 false false false, 1 ∷ 2 ∷ 10 ∷ 11 ∷ 12 ∷ 14 ∷ 72 ∷ [], 6 ∷ 70 ∷ [])
    ∷ []

-- each is in range, and its report is as given
unfoldable pub Witnessed : Type 0
Witnessed =
    (map (λ e. in_range e.0) examples ≡ map (λ e. true) examples)
    × (map (λ e. flat (breaches e.0 e.1)) examples ≡ map (λ e. e.2) examples)
