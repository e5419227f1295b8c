-- How many zones there are, and the words of a zone, of the head and of the whole device.
use Rattle.std.specs.Prelude.{ℕ, ◌+◌, ◌*◌, ◌-◌, ◌^◌}
use Rattle.device_store.specs.Quantities.{helds}
pub use Rattle.device_store.specs.Quantities.{helds}

-- "Zones: 8 joined at once"
abbrev pub slots : ℕ
slots = 8

abbrev pub zone_size : ℕ
zone_size = 2 + 2 * helds

-- clock, since when no link is up, override; then the settings
abbrev pub marks : ℕ
marks = 3

abbrev pub settings : ℕ
settings = 12

abbrev pub head_size : ℕ
head_size = marks + settings

abbrev pub words : ℕ
words = head_size + slots * zone_size

-- the control state and each quantity: what holds at a second
abbrev pub values : ℕ
values = 1 + helds

-- one more than the largest id
abbrev pub ids : ℕ
ids = 256

-- the largest word: the end of what holds until replaced, and a contractual maximum that is none
abbrev pub most : ℕ
most = 2 ^ 64 - 1

-- "whole seconds, 0 to 2^40 - 1": the first second past the end
abbrev pub end : ℕ
end = 2 ^ 40

-- "whole mW, 0 to 2^63 - 1": the first number past the largest value
abbrev pub value_end : ℕ
value_end = 2 ^ 63
