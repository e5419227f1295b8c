-- Frames that come in scraps, each applied to a device when it is whole.
-- The proof of KernelEveryCutting is kernel_every_cutting, in proofs/, and so for the other. Assumes nothing: these are
-- definitions and statements.
use Rattle.std.specs.Prelude.{ℕ, suc, ◌≤◌, ◌≡◌, List, length, take}
use Rattle.wire_prefix.specs.Prefix.{most_frame}
use Rattle.receiver.specs.Receive.{fresh}
use Rattle.receiver_laws.specs.Stream.{cut}
use Rattle.receiver_laws.specs.Driver.{Effect, Driven, drive, joined}
use Rattle.receiver_laws.specs.Laws.{LedTo}
use Rattle.kernel.specs.Frame.{frame_answer, frame_after, frame_out}
use Rattle.kernel.specs.declared.frame_call.Framed.{Framed}

-- what a driver keeps: the device's words, the buffer that it lends for responses, and how many frames it has applied
pub record Kept : Type 0 where
  pub words : List ℕ
  pub out : List ℕ
  pub count : ℕ

-- what comes of a frame: the number and the length of its response, and the response's bytes
pub record Came : Type 0 where
  pub answer : Framed
  pub response : List ℕ

-- where a frame came from, and when
pub record With : Type 0 where
  pub zone : ℕ
  pub time : ℕ

-- a frame applied: the zone and the second go with its place among the frames
unfoldable pub apply_frame : (ℕ → With) → Kept → List ℕ → Effect Kept Came
apply_frame goes k frame =
    let w = goes k.count in
    let answer = frame_answer k.words w.zone w.time frame (length k.out) in
    let out = frame_out k.words w.zone w.time frame k.out in
    record {
      state = record {
        words = frame_after k.words w.zone w.time frame (length k.out);
        out = out;
        count = suc k.count;
      };
      output = record { answer = answer; response = take answer.length out };
    }

-- "The frames and answers must be those of the uncut stream, for every cutting, with the same zone and times given to the
-- same frames": numbers, response bytes and the device are those of the uncut stream's frames applied one by one
abbrev pub KernelEveryCutting : Type 0
KernelEveryCutting =
    (goes : ℕ → With) (k : Kept) (room : List ℕ) (scraps : List (List ℕ)) → most_frame ≤ length room
    → LedTo (apply_frame goes) k (cut (joined scraps)) (drive (apply_frame goes) k fresh room scraps)

-- two cuttings of one stream end alike: the device, the buffer, all that came out, and the record
pub record Alike (d e : Driven Kept Came) : Type 0 where
  pub state_is : d.state ≡ e.state
  pub outputs_are : d.outputs ≡ e.outputs
  pub after_is : d.after ≡ e.after
  pub left_is : take d.after.have d.room ≡ take e.after.have e.room

abbrev pub CuttingsAlike : Type 0
CuttingsAlike =
    (goes : ℕ → With) (k : Kept) (room room' : List ℕ) (scraps scraps' : List (List ℕ))
    → most_frame ≤ length room → most_frame ≤ length room' → joined scraps ≡ joined scraps'
    → Alike (drive (apply_frame goes) k fresh room scraps) (drive (apply_frame goes) k fresh room' scraps')
