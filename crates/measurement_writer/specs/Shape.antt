-- What the rows of the table have in common. Assumes nothing: these are definitions.
use Rattle.std.specs.Prelude.{Bool, ◌&&◌, ◌||◌, ltb, eqb}
use Rattle.measurement_table.specs.declared.attributes.Row.{Row}

-- a row of the table: a number that a head of two bytes holds, and one place or three
unfoldable pub shaped : Row → Bool
shaped r = ltb r.0 256 && (eqb r.1 1 || eqb r.1 3)
