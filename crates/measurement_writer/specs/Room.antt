-- How many bytes a payload can have, and the room that its writer asks for. Assumes nothing: these are definitions.
use Rattle.std.specs.Prelude.{ℕ, ◌+◌, ◌*◌, ◌≤◌, List, length}
use Rattle.wire_fields.specs.Puts.{Adds, field_bytes}
use Rattle.measurement_table.specs.Cells.{row_item}
use Rattle.measurement_table.specs.Words.{held_from}
use Rattle.measurement_table.specs.declared.attributes.Row.{Row}

-- the bytes of a row whose cells stand from place i on: none where the attribute is absent
abbrev pub row_bytes : List ℕ → ℕ → Row → List ℕ
row_bytes ws i r = field_bytes r.0 (row_item r (held_from ws r.1 i))

-- a key of two bytes with a number of nine; three phases are ten bytes each, behind a key and a head of three
abbrev pub place_room : ℕ
place_room = 11

-- all places
abbrev pub rows_room : ℕ
rows_room = place_room * 36

-- a piece is put where the widest of its kind has room: a map of phases has 33 bytes at most, and asks for 72
abbrev pub spare : ℕ
spare = 39

-- the head of the map in two bytes, and all places
abbrev pub payload_room : ℕ
payload_room = 2 + rows_room + spare

-- from s, written up to p, to t, written up to q: bs was added, of at most `most` bytes, where there is room for them and the spare
pub record PutsShort (s : List ℕ) (p : ℕ) (bs : List ℕ) (most : ℕ) (t : List ℕ) (q : ℕ) : Type 0 where
  pub fit : p + (most + spare) ≤ length s → Adds s p bs most t q
