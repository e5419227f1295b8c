-- How many bytes a request that is written can have. Assumes nothing: these are definitions.
use Rattle.std.specs.Prelude.{ℕ, ◌*◌}
use Rattle.wire_fields.specs.Puts.{pair_room}

-- the longest frame that is written: wire_laws has the proof
abbrev pub longest_request : ℕ
longest_request = 62

-- ROOM FOR THE WRITERS, each field taken at its widest
-- the seven pairs of SetCurrentLimits, those of the phases among them
abbrev pub params_room : ℕ
params_room = 7 * pair_room

-- more than any payload that is written has
abbrev pub payload_room : ℕ
payload_room = 240
