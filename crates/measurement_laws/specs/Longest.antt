-- How long the payloads that are written can be. The proof of PayloadLongest is payload_longest, in proofs/, and so for the other.
-- Assumes nothing: these are statements.
use Rattle.std.specs.Prelude.{ℕ, ◌≤◌, ◌≡◌, true, List, length}
use Rattle.wire_cbor.specs.Item.{encode}
use Rattle.measurement_table.specs.Table.{rows}
use Rattle.measurement_table.specs.Cells.{Cell, rows_fit}
use Rattle.measurement_table.specs.Payload.{item_of}

-- all attributes, each with a number as long as its range has
abbrev pub longest_payload : ℕ
longest_payload = 326

-- no payload that is written is longer, so that every one fits the 2,048 bytes of a payload, and one is as long
abbrev pub PayloadLongest : Type 0
PayloadLongest = (cs : List Cell) → rows_fit rows cs ≡ true → (1 ≤ length (encode (item_of cs))) × (length (encode (item_of cs)) ≤ longest_payload)

abbrev pub PayloadReached : Type 0
PayloadReached = (cs : List Cell) × (length cs ≡ 36) × (rows_fit rows cs ≡ true) × (length (encode (item_of cs)) ≡ longest_payload)
