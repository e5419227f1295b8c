-- The cases of specs/Examples, computed. Assumes nothing.
use mathlib.Core.Path.{refl}
use mathlib.Core.Option.{bind}
use Rattle.wire_bytes.specs.Bytes.{number_at, bytes_of}
use Rattle.wire_heads.specs.Head.{info_of, width_of, head_bytes, arg_at, head_at}
use Rattle.wire_heads.specs.Key.{key_at}
use Rattle.wire_cbor.specs.Item.{count_pairs, encode, encode_pairs, item_at, items_at, pairs_at, from_head, payload_of}
use Rattle.wire_cbor.specs.Find.{value_of}
use Rattle.refusals.specs.Refusals.{first_of}
use Rattle.wire_fields.specs.Fields.{map_in, present}
use Rattle.wire_fields.specs.Ranges.{within, number_in}
use Rattle.wire_fields.specs.ByPhase.{keys_below}
use Rattle.measurement_table.specs.Rows.{ranges}
use Rattle.measurement_table.specs.Table.{rows, range_of}
use Rattle.measurement_table.specs.Cells.{cell_in, cells_from, phases_in, blanks, row_in, rows_in, cell_item, phase_fields, some_map, first_item, row_item, fields_of}
use Rattle.measurement_table.specs.Words.{place_of, cell_of, flat, held_at, held_from, held}
use Rattle.measurement_table.specs.Payload.{cells_of, read_number, flat_or, read_after, item_of}
use Rattle.measurement_laws.specs.Examples.{plain, ends, beyond, others, found, written, Worked}

pub worked : Worked
unfolding plain ends beyond others found written read_number first_of cells_of flat_or read_after flat place_of
    held held_from held_at cell_of payload_of item_at from_head pairs_at items_at key_at head_at arg_at number_at width_of
    info_of map_in bind value_of rows ranges range_of within number_in cell_in cells_from keys_below phases_in blanks row_in rows_in item_of encode encode_pairs head_bytes
    bytes_of count_pairs present cell_item phase_fields some_map first_item row_item fields_of
worked = (refl, refl)
