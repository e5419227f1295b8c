-- Sizes of the report, each said once; src/sizes.rt has them for the code.
use Rattle.std.specs.Prelude.{ℕ, ◌+◌, ◌*◌}
use Rattle.report_tables.specs.Features.{bits}
use Rattle.report_tables.specs.Attributes.{row_count}

-- phases at most, and the kinds of supported directions: consumption, production, both
abbrev pub phase_count : ℕ
phase_count = 3

abbrev pub direction_kinds : ℕ
direction_kinds = 3

-- the groups that judge bits, and the one behind them, which judges attributes
abbrev pub bit_groups : ℕ
bit_groups = 5

abbrev pub attribute_group : ℕ
attribute_group = bit_groups + 1

-- one more than the largest attribute number
abbrev pub number_end : ℕ
number_end = 82

-- pairs of a group and a bit, and all pairs that can stand in a report
abbrev pub bit_pairs : ℕ
bit_pairs = bit_groups * bits

abbrev pub pair_count : ℕ
pair_count = bit_pairs + row_count
