-- The table of attributes and the range of each kind, as the other rooms cite them.
unfoldable pub use Rattle.measurement_table.specs.Rows.{rows, places, ranges, range_of}
pub use Rattle.measurement_table.specs.Rows.{no_row, unsigned_bits}
