-- What a message may leave out, by its kinds. Assumes nothing: these are definitions.
use Rattle.std.specs.Prelude.{ℕ, ℤ, Option}

-- a number that may be absent: a duration, a value of a response
abbrev pub Amount : Type 0
Amount = Option ℕ

-- a setpoint field: absent leaves that direction, a value sets it
abbrev pub Target : Type 0
Target = Option ℤ

-- what a clear names: one direction, or none and so both
abbrev pub Aim : Type 0
Aim = Option ℕ
