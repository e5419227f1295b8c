-- Refused, or written whole into a local that has the room, and delivered.
use mathlib.Core.Path.{sym, ap, ◌∙◌}
use native.Mathlib.Omega.{arith}
use Rattle.refusals.specs.Answers.{number_of}
use Rattle.wire_cbor.specs.Item.{encode}
use Rattle.wire_output.specs.Writing.{refused_with}
use Rattle.wire_output.proofs.Sends.{a_refusal}
use Rattle.measurement_table.specs.Payload.{item_of}
use Rattle.measurement_table.specs.Words.{held, range_number}
use Rattle.measurement_writer.proofs.writing.write_measurement.Goals as goal

pub returns-in-Err : goal.returns-in-Err
returns-in-Err c =
    let both =
    a_refusal 3 (range_number c.args.words.now) (encode (item_of (held c.args.words.now))) c.args.out.now _ (sym c.in-Err.ensures.0)
    (λ z. omega arith) (c.refused.ensures ∙ ap refused_with (c.number.ensures ∙ ap number_of c.in-Err.ensures.1)) in
    record { value = both.0; out_after = both.1 }
