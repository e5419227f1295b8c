-- What a call of the receiver makes of its record, its room and a scrap. Assumes nothing: these are definitions.
use Rattle.std.specs.Prelude.{ℕ, ◌+◌, ◌-◌, min, ◌≡◌, Bool, cond, ◌&&◌, List, ◌++◌, length, take, leb, ltb, eqb}
use Rattle.wire_bytes.specs.Bytes.{put_whole}
use Rattle.wire_prefix.specs.Prefix.{most_frame, end_of, bad_end}
use Rattle.receiver.specs.declared.record.Record.{Record}
use Rattle.receiver.specs.declared.record.Answer.{Answer}
use Rattle.refusals.specs.Refusals.{BAD_LENGTH, NO_SPACE}

-- the record of a new connection
abbrev pub fresh : Record
fresh = record { have = 0; need = 0; closed = 0 }

-- the record that a bad length leaves
abbrev pub shut : Record
shut = record { have = 0; need = 0; closed = 1 }

-- the counts that a call leaves, unless it closes: part of a prefix, or a prefix and part of its payload
unfoldable pub is_open : Record → Bool
is_open r =
    eqb r.closed 0
    && cond (eqb r.need 0) (ltb r.have 4) (leb 4 r.have && ltb r.have r.need && leb r.need most_frame)

-- where the frame in hand ends: as the record knows, else as the bytes in the room and the scrap behind them say
unfoldable pub end_for : Record → List ℕ → List ℕ → ℕ
end_for r room scrap = cond (eqb r.need 0) (end_of (take r.have room ++ scrap)) r.need

-- the record at h bytes of a frame that ends at e; as at the start where the frame is whole
unfoldable pub record_at : ℕ → ℕ → Record
record_at h e = cond (eqb h e) fresh (record { have = h; need = cond (ltb h 4) 0 e; closed = 0 })

-- the length of a frame that is whole
unfoldable pub length_at : ℕ → ℕ → ℕ
length_at h e = cond (eqb h e) e 0

-- "Beside a refusal counts are 0"
abbrev pub refusal : ℕ → Answer
refusal n = record { number = n; taken = 0; length = 0 }

-- n bytes are taken, and h of a frame that ends at e are there
abbrev pub taking : ℕ → ℕ → ℕ → Answer
taking h e n = record { number = 0; taken = n; length = length_at h e }

-- the answer, and the record and the room afterwards
pub record Done : Type 0 where
  pub answer : Answer
  pub after : Record
  pub room : List ℕ

-- what is answered and left is what a call does
abbrev pub Does : Done → Answer → Record → List ℕ → Type 0
Does d answer after room = (answer ≡ d.answer) × (after ≡ d.after) × (room ≡ d.room)

-- a refusal leaves the room
unfoldable pub refused : ℕ → Record → List ℕ → Done
refused n after room = record { answer = refusal n; after = after; room = room }

-- n bytes of the scrap are taken, of a frame that ends at e
unfoldable pub accepted : Record → List ℕ → List ℕ → ℕ → ℕ → Done
accepted r room scrap e n = record {
  answer = taking (r.have + n) e n;
  after = record_at (r.have + n) e;
  room = put_whole room r.have (take n scrap);
}

-- THE CALL: "a room under 2,052 is 15, tested first"; 1 "at counts no call leaves", and "at the fourth byte of a bad
-- length, which closes the record and leaves the room"; else the scrap up to the end of one frame
unfoldable pub received : Record → List ℕ → List ℕ → Done
received r room scrap =
    let e = end_for r room scrap in
    cond (ltb (length room) most_frame) (refused NO_SPACE r room)
    (cond (is_open r)
    (cond (bad_end e) (refused BAD_LENGTH shut room) (accepted r room scrap e (min (length scrap) (e - r.have))))
    (refused BAD_LENGTH r room))
