-- How many bytes a response that is written can have. Assumes nothing: these are definitions.
use Rattle.std.specs.Prelude.{ℕ, ◌*◌}
use Rattle.wire_fields.specs.Puts.{pair_room}

-- the longest frame that is written: wire_laws has the proof
abbrev pub longest_response : ℕ
longest_response = 49

-- ROOM FOR THE WRITERS, each field taken at its widest
-- five fields, and the key with the head of their map
abbrev pub outcome_room : ℕ
outcome_room = 6 * pair_room

-- more than any payload that is written has
abbrev pub payload_room : ℕ
payload_room = 160
