-- The rows that are left, counted and put. Assumes nothing.
use Prim.Native.Nat.{ℕ, ◌+◌, ◌≤◌, ◌<◌}
use mathlib.Core.Path.{◌≡◌}
use mathlib.Core.Bool.{true, ◌||◌}
use mathlib.Core.List.{List, [], ◌∷◌, ◌++◌}
use native.Mathlib.Omega.{arith}
use lib.ListN.{drop}
use lib.Dec.{ltb, eqb}
use borrow.Author.Tests.{ltb-true}
use Rattle.wire_cbor.specs.Item.{encode_pairs, count_pairs}
use Rattle.wire_fields.specs.Fields.{present}
use Rattle.wire_fields.specs.Puts.{field_bytes, pairs_of}
use Rattle.wire_fields.proofs.Added.{fields_none, fields_more, count_none, count-more, pairs_small}
use Rattle.wire_fields.proofs.Joined.{and_left}
use Rattle.measurement_table.specs.Table.{rows, places}
use Rattle.measurement_table.specs.Cells.{Cell, row_item, fields_of}
use Rattle.measurement_table.specs.Words.{held_from}
use Rattle.measurement_table.specs.declared.attributes.Row.{Row}
use Rattle.measurement_writer.specs.Shape.{shaped}
use Rattle.measurement_writer.proofs.FitWalk.{held_by, held-take, held-drop}

pub key_low : (r : Row) → shaped r ≡ true → r.0 < 256
unfolding shaped
key_low r e = ltb-true r.0 256 (and_left (ltb r.0 256) (eqb r.1 1 || eqb r.1 3) e)

-- a row, then the rest
module _ (ws : List ℕ) (rs tail : List Row) (r : Row) (re : rs ≡ r ∷ tail) (i : ℕ) where
  fields_cons : fields_of rs (held_by ws rs i) ≡ (r.0, row_item r (held_from ws r.1 i)) ∷ fields_of tail (held_by ws tail (i + r.1))
  unfolding fields_of places
  fields_cons = rw (re, held-take ws r.1 (places tail) i, held-drop ws r.1 (places tail) i)

  pub count-rows_more : (x y : ℕ) → y ≡ pairs_of (row_item r (held_from ws r.1 i))
      → (x + y) + count_pairs (present (fields_of tail (held_by ws tail (i + r.1)))) ≡ x + count_pairs (present (fields_of rs (held_by ws rs i)))
  count-rows_more x y e = rw fields_cons (omega (arith, count-more r.0 (row_item r (held_from ws r.1 i)) (fields_of tail (held_by ws tail (i + r.1)))))

  pub rows-bytes : encode_pairs (present (fields_of rs (held_by ws rs i)))
      ≡ field_bytes r.0 (row_item r (held_from ws r.1 i)) ++ encode_pairs (present (fields_of tail (held_by ws tail (i + r.1))))
  rows-bytes = rw fields_cons (fields_more r.0 (row_item r (held_from ws r.1 i)) (fields_of tail (held_by ws tail (i + r.1))))

pub count_small : (r : Row) (cs : List Cell) (y : ℕ) → y ≡ pairs_of (row_item r cs) → y ≤ 1
count_small r cs y e = rw e (pairs_small (row_item r cs))

-- at the end
module _ (k : ℕ) (e : k ≡ 24) (cs : List Cell) where
  pub count-rows_end : count_pairs (present (fields_of (drop k rows) cs)) ≡ 0
  unfolding rows fields_of
  count-rows_end = rw e count_none

  pub rows-bytes_end : encode_pairs (present (fields_of (drop k rows) cs)) ≡ []
  unfolding rows fields_of
  rows-bytes_end = rw e fields_none
