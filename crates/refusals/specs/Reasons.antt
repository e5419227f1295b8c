-- The reject reasons of SetLimit: "below minimum 0 (status 14), above contractual 1 (status 0), invalid 2 (13), override 3 (12), not supported 4 (11)".
use Rattle.std.specs.Prelude.{ℕ}

abbrev pub below_minimum : ℕ
below_minimum = 0

abbrev pub above_contractual : ℕ
above_contractual = 1

abbrev pub invalid_value : ℕ
invalid_value = 2

abbrev pub override_set : ℕ
override_set = 3

abbrev pub not_supported : ℕ
not_supported = 4
