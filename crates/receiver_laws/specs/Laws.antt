-- What is proved of the receiver. The proof of EveryCutting is every_cutting, in proofs/, and so for the others.
-- Assumes nothing: these are statements.
use Rattle.std.specs.Prelude.{ℕ, ◌<◌, ◌≤◌, ◌≡◌, true, false, List, [], ◌++◌, length, take}
use Rattle.wire_bytes.specs.Bytes.{Bytes}
use Rattle.wire_prefix.specs.Prefix.{most_frame, end_of, bad_end}
use Rattle.receiver.specs.declared.record.Record.{Record}
use Rattle.receiver_laws.specs.Stream.{Cut, all_framed, cut}
use Rattle.receiver.specs.Receive.{fresh, shut, is_open, refused, received}
use Rattle.receiver_laws.specs.Driver.{Effect, applied, Driven, drive, joined, collect, seen, record_of}

-- what a driver has is what a stream leads to: the state and the outputs of its frames applied one by one, the record,
-- and in the room the bytes of an unfinished frame
pub record LedTo {S O : Type 0} (apply : S → List ℕ → Effect S O) (s : S) (c : Cut) (d : Driven S O) : Type 0 where
  pub state_is : d.state ≡ (applied apply s c.frames).state
  pub outputs_are : d.outputs ≡ (applied apply s c.frames).outputs
  pub after_is : d.after ≡ record_of c
  pub left_is : take d.after.have d.room ≡ c.left

-- "The frames and answers must be those of the uncut stream, for every cutting", whatever a frame is applied to
abbrev pub EveryCutting : Type 1
EveryCutting =
    (S O : Type 0) (apply : S → List ℕ → Effect S O) (s : S) (room : List ℕ) (scraps : List (List ℕ))
    → most_frame ≤ length room → LedTo apply s (cut (joined scraps)) (drive apply s fresh room scraps)

-- the same of a driver that only collects: the frames given out in order, whether it closed, and what is left
abbrev pub FramesOfStream : Type 0
FramesOfStream =
    (room : List ℕ) (scraps : List (List ℕ)) → most_frame ≤ length room → seen (drive collect tt fresh room scraps) ≡ cut (joined scraps)

-- "scraps of every length, none included": an empty one changes nothing, whatever the record and the room are
pub record Unchanged (r : Record) (room : List ℕ) : Type 0 where
  pub after_is : (received r room []).after ≡ r
  pub room-is : (received r room []).room ≡ room
  pub taken_is : (received r room []).answer.taken ≡ 0
  pub length-is : (received r room []).answer.length ≡ 0

abbrev pub EmptyScrap : Type 0
EmptyScrap = (r : Record) (room : List ℕ) → Unchanged r room

-- "counts no call leaves" are those that are neither open nor shut: a call leaves no others, and leaves each of these
abbrev pub CallsLeave : Type 0
CallsLeave =
    (r : Record) (room scrap : List ℕ) → is_open r ≡ true → ((received r room scrap).after ≡ shut → ⊥)
    → is_open (received r room scrap).after ≡ true

abbrev pub CallsReach : Type 0
CallsReach =
    (r : Record) (room : List ℕ) → most_frame ≤ length room → is_open r ≡ true
    → (scrap : List ℕ) × Bytes scrap × ((received fresh room scrap).after ≡ r)

-- "closes the receiver for good"
abbrev pub ClosedForGood : Type 0
ClosedForGood = (room scrap : List ℕ) → most_frame ≤ length room → received shut room scrap ≡ refused 1 shut room

-- a stream is cut into the frames that it is made of, and what follows them: an unfinished frame, or a bad length
abbrev pub CutsFrames : Type 0
CutsFrames =
    (fs : List (List ℕ)) (rest : List ℕ) → all_framed fs ≡ true → bad_end (end_of rest) ≡ false → length rest < end_of rest
    → cut (joined fs ++ rest) ≡ record { frames = fs; closed = false; left = rest }

abbrev pub CutsBad : Type 0
CutsBad =
    (fs : List (List ℕ)) (rest : List ℕ) → all_framed fs ≡ true → bad_end (end_of rest) ≡ true
    → cut (joined fs ++ rest) ≡ record { frames = fs; closed = true; left = [] }

-- and into nothing else: all that it gives are frames
abbrev pub CutFramed : Type 0
CutFramed = (s : List ℕ) → all_framed (cut s).frames ≡ true

-- frames sent one behind the other come out as they went in, however they are cut
abbrev pub FramesArrive : Type 0
FramesArrive =
    (room : List ℕ) (fs scraps : List (List ℕ)) → most_frame ≤ length room → all_framed fs ≡ true → joined scraps ≡ joined fs
    → seen (drive collect tt fresh room scraps) ≡ record { frames = fs; closed = false; left = [] }
