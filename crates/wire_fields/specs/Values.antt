-- Which number a head says. It parts the work of the readers' proofs. Assumes nothing: these are definitions.
use Rattle.std.specs.Prelude.{◌^◌, ◌%◌, cond, eqb, pos, negsuc, None, Some}
use Rattle.wire_cbor.specs.declared.heads.KeyHead.{KeyHead}
use Rattle.wire_messages.specs.declared.Field.{Field}
use Rattle.wire_messages.specs.Options.{Amount}

-- a signed number, null or nothing; where the number is past 64 signed bits, what its low 63 bits say
unfoldable pub field_of : KeyHead → Field
field_of k =
    cond (eqb k.major 0) (Field.Value (pos (k.arg % 2 ^ 63)))
    (cond (eqb k.major 1) (Field.Value (negsuc (k.arg % 2 ^ 63)))
    (cond (eqb k.major 7) Field.Null Field.Absent))

-- an unsigned number, or nothing
unfoldable pub amount_of : KeyHead → Amount
amount_of k = cond (eqb k.major 0) (Some k.arg) None
