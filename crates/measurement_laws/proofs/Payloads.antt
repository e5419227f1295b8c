-- Both round trips of payloads: the table's own, by the laws over any table. Assumes nothing.
use mathlib.Core.Path.{◌≡◌, refl, sym, ap, ◌∙◌}
use mathlib.Core.Option.{some, bind}
use native.Mathlib.Omega.{arith}
use lib.ListN.{length}
use borrow.Author.Tests.{le-leb}
use Rattle.wire_cbor.specs.Item.{Item, Pairs, Ok, encode}
use Rattle.wire_cbor.proofs.Payload.{payload_exact}
use Rattle.wire_fields.specs.Fields.{map_in}
use Rattle.refusals.specs.Refusals.{first_of}
use Rattle.wire_laws.proofs.Trips.{payload_back}
use Rattle.wire_laws.proofs.FieldsAgain.{same-inside}
use Rattle.measurement_table.specs.Table.{rows}
use Rattle.measurement_table.specs.Cells.{rows_in}
use Rattle.measurement_table.specs.Payload.{cells_of, read_number, item_of}
use Rattle.measurement_table.proofs.Order.{table, table-long}
use Rattle.measurement_laws.specs.RoundTrips.{ReadsBack, WritesAgain, OneMeasurement}
use Rattle.measurement_laws.proofs.Back.{rows-read_back}
use Rattle.measurement_laws.proofs.Again.{rows-write_again}
use Rattle.measurement_laws.proofs.WellFormed.{ok_table}
use Rattle.measurement_laws.proofs.Longest.{payload_longest}

pub reads-back : ReadsBack
unfolding read_number cells_of item_of first_of map_in bind
reads-back cs l h =
    let p = payload_back (item_of cs) (ok_table rows 6 cs (omega (arith, table-long.0)) table.0 h) in
    let r = rows-read_back rows cs 0 table.0 (l ∙ sym table-long.1) h in
    let s = payload_longest cs h in
    rw (p, r, le-leb 1 (length (encode (item_of cs))) s.0, le-leb (length (encode (item_of cs))) 2048 (omega (arith, s.1))) (refl, refl)

pub writes_again : WritesAgain
unfolding cells_of item_of map_in bind Ok
writes_again s ok cs ps p u e =
    let x = (payload_exact s ok (Item.map ps)).0 p in
    let q : rows_in rows ps ≡ some cs = rw p at e in
    ap (λ (m : Pairs). encode (Item.map m)) (rows-write_again rows ps cs 0 6 table.0 x.0.1 u q) ∙ x.1

pub one_measurement : OneMeasurement
one_measurement cs ds l m h g e = same-inside (sym (reads-back cs l h).1 ∙ ap cells_of e ∙ (reads-back ds m g).1)
