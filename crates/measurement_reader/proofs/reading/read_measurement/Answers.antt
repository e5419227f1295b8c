-- One refusal after the other, and the words stay; what the walk fills is what the tree says (ByTree), all 36 cells.
use borrow.Author.Rules.{rules}
use Rattle.wire_bytes.proofs.NumberLaws.{all_bytes}
use Rattle.measurement_reader.proofs.ByTree.{read_length, read_item, read_whole, read_rows}
use Rattle.measurement_reader.proofs.reading.read_measurement.Goals as goal

pub returns-then-not-has_length : goal.returns-then-not-has_length
returns-then-not-has_length c =
    let both =
    read_length _ _ _ c.has_length.ensures c.if-not-has_length.true in
    record { value = both.0; words_after = both.1 }

pub returns-then-not-is_item : goal.returns-then-not-is_item
returns-then-not-is_item c =
    let both =
    read_item _ _ _ c.has_length.ensures c.if-not-has_length.false _ c.is_item.ensures c.if-not-is_item.true in
    record { value = both.0; words_after = both.1 }

pub returns-then-not-payload_into : goal.returns-then-not-payload_into
returns-then-not-payload_into c =
    let both =
    read_rows _ _ _ c.has_length.ensures c.if-not-has_length.false _ c.is_item.ensures c.if-not-is_item.false
    (all_bytes _ c.type_inv.s) _ _ _ c.payload_into.ensures c.if-not-payload_into.true in
    record { value = both.0; words_after = both.1 }

pub returns : goal.returns
returns c =
    let both =
    read_whole _ _ _ c.has_length.ensures c.if-not-has_length.false _ c.is_item.ensures c.if-not-is_item.false
    (all_bytes _ c.type_inv.s) _ _ _ c.payload_into.ensures (search rules)
    c.if-not-payload_into.false in
    record { value = both.0; words_after = both.1 }
