-- What a writer answers and leaves. Assumes nothing: these are definitions.
use Rattle.std.specs.Prelude.{ℕ, cond, not, List, [], ◌∷◌, length, leb, eqb}
use Rattle.wire_bytes.specs.Bytes.{put}
use Rattle.wire_cbor.specs.Item.{Item, encode}
use Rattle.refusals.specs.Refusals.{first_of, NO_SPACE}
use Rattle.wire_prefix.specs.Prefix.{frame_of}
use Rattle.wire_output.specs.declared.Written.{Written}

-- the frame of an item
unfoldable pub item_frame : Item → List ℕ
item_frame i = frame_of (encode i)

-- the refusal n that comes before 15, or 15 where "the complete output is longer than the lent buffer", or 0
unfoldable pub writing_number : ℕ → List ℕ → ℕ → ℕ
writing_number n bytes room = cond (eqb n 0) (first_of ((not (leb (length bytes) room), NO_SPACE) ∷ [])) n

-- refused: nothing is written
abbrev pub refused_with : ℕ → Written
refused_with n = record { number = n; length = 0 }

-- the number, and how many bytes were written
unfoldable pub written_of : ℕ → List ℕ → ℕ → Written
written_of n bytes room =
    cond (eqb (writing_number n bytes room) 0) (record { number = 0; length = length bytes }) (refused_with (writing_number n bytes room))

-- the bytes at the front; nothing is written at a refusal, and what lies past them stays
unfoldable pub left_by : ℕ → List ℕ → List ℕ → List ℕ
left_by n bytes out = cond (eqb (writing_number n bytes (length out)) 0) (put out 0 bytes) out
