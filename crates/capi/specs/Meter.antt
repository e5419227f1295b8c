-- What is measured, as C reads and writes it: words, and a number for each way of flow. Assumes nothing: these are definitions.
use Rattle.std.specs.Prelude.{ℕ, List}
use Rattle.wire_cbor.specs.Item.{encode}
use Rattle.wire_output.specs.Writing.{written_of, left_by}
use Rattle.wire_output.specs.declared.Written.{Written}
use Rattle.measurement_table.specs.Table.{rows}
use Rattle.measurement_table.specs.Words.{held, range_number}
use Rattle.measurement_table.specs.Payload.{item_of}
use Rattle.measurement.specs.Flow.{flow_of, cell_for, flow_number}

-- what writing words answers, given the room, and leaves
unfoldable pub measurement_written : List ℕ → ℕ → Written
measurement_written ws room = written_of (range_number ws) (encode (item_of (held ws))) room

unfoldable pub measurement_left : List ℕ → List ℕ → List ℕ
measurement_left ws out = left_by (range_number ws) (encode (item_of (held ws))) out

-- the flow of attribute n, and of its phase p
abbrev pub flow_in : List ℕ → ℕ → ℕ → ℕ
flow_in ws n p = flow_number (flow_of (cell_for rows (held ws) n p))
