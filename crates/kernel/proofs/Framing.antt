-- From a decision and a written response to the frame call's answer, its device and its output.
use Prim.Native.Nat.{ℕ, ◌+◌}
use mathlib.Core.Bool.{Bool, true, false, cond, not}
use mathlib.Core.Logic.{◌≢◌}
use mathlib.Core.Path.{◌≡◌, refl, ap, ◌∙◌}
use mathlib.Core.List.{List}
use mathlib.Core.Option.{Option}
use native.Mathlib.Nat.{zero-add}
use lib.Dec.{leb, eqb}
use lib.ListN.{length}
use borrow.Author.Tests.{ne_eqb}
use Rattle.wire_bytes.specs.Bytes.{put, put_whole}
use Rattle.refusals.specs.Refusals.{first_of}
use Rattle.wire_messages.specs.declared.Outcome.{Outcome}
use Rattle.wire_messages.specs.declared.Request.{Request}
use Rattle.wire_messages.specs.declared.Response.{Response}
use Rattle.wire_cbor.specs.Item.{Item, payload_of}
use Rattle.wire_responses.specs.Replies.{reply_to}
use Rattle.wire_prefix.specs.Prefix.{framed, payload_in}
use Rattle.wire_requests.specs.Requests.{from_payload, read_request}
use Rattle.wire_responses.specs.WrittenResponses.{response_item, status_alone}
use Rattle.wire_output.specs.Writing.{item_frame, writing_number, written_of, left_by}
use Rattle.wire_output.specs.declared.Written.{Written}
use Rattle.wire_requests.specs.declared.reading.Reading.{Reading}
use Rattle.device_store.specs.Sizes.{words}
use Rattle.device_calls.specs.Commands.{command_number, command_after, command_answer, decision_of, outcome_for}
use Rattle.device_calls.specs.declared.Answer.{Answer}
use Rattle.device_calls.specs.declared.Decision.{Decision}
use Rattle.device_calls.proofs.Decisions.{answered}
use Rattle.kernel.specs.Frame.{response_to, response_frame, number_from, obeyed_by, answer_from, after_from, out_from, frame_answer, frame_after, frame_out}
use Rattle.kernel.specs.declared.frame_call.Framed.{Framed}

-- a writer that refuses nothing but a lack of room
module _ (frame : List ℕ) where
  written-length : (room : ℕ) → (written_of 0 frame room).length ≡ cond (leb (length frame) room) (length frame) 0
  unfolding written_of writing_number first_of
  written-length room = go (leb (length frame) room)
    where
      go : (b : Bool)
          → (cond {A = Written} (eqb (cond (not b) 15 0) 0) (record { number = 0; length = length frame }) (record { number = cond (not b) 15 0; length = 0 })).length ≡ cond b (length frame) 0
      go true = refl
      go false = refl

  written-number : (room : ℕ) → (written_of 0 frame room).number ≡ writing_number 0 frame room
  unfolding written_of writing_number first_of
  written-number room = go (leb (length frame) room)
    where
      go : (b : Bool) → (cond {A = Written} (eqb (cond (not b) 15 0) 0) (record { number = 0; length = length frame }) (record { number = cond (not b) 15 0; length = 0 })).number ≡ cond (not b) 15 0
      go true = refl
      go false = refl

  pub left_whole : (out : List ℕ) → left_by 0 frame out ≡ put_whole out 0 frame
  unfolding left_by writing_number first_of put_whole
  left_whole out = rw (zero-add (length frame)) (go (leb (length frame) (length out)))
    where
      go : (b : Bool) → cond (eqb (cond (not b) 15 0) 0) (put out 0 frame) out ≡ cond b (put out 0 frame) out
      go true = refl
      go false = refl

module _ (ws : List ℕ) (z t : ℕ) (r : Request) (full : length ws ≡ words) where
  pub responds : (x : Decision) (o : Outcome) → x ≡ decision_of ws z t r.command → o ≡ outcome_for ws t r.command x → reply_to r x.number o ≡ response_to ws z t r
  unfolding response_to command_answer
  responds x o e f =
      let a = answered ws z t r.command full x o e f in
      let n = ap (λ (y : Answer). y.number) a in
      let p = ap (λ (y : Answer). y.outcome) a in
      cc

module _ (ws : List ℕ) (z t : ℕ) (r : Request) (out : List ℕ) where
  abbrev frame : List ℕ
  frame = response_frame ws z t (Reading.Is r)

  -- a refusal: the number stands, with or without its response
  pub refused-answer : (n : ℕ) (w : Written) → n ≡ command_number ws z t r.command → n ≢ 0 → w ≡ written_of 0 frame (length out)
      → (record { number = n; length = w.length } ≡ answer_from ws z t (Reading.Is r) (length out)) × (ws ≡ after_from ws z t (Reading.Is r) (length out))
  unfolding number_from writing_number
  refused-answer n w e h f = rw (← e, ne_eqb n 0 h, f, written-length frame (length out)) (refl, rw (ne_eqb n 0 h))

  -- accepted, where the response has room
  pub accepted-answer : (w : Written) → command_number ws z t r.command ≡ 0 → w ≡ written_of 0 frame (length out)
      → record { number = w.number; length = w.length } ≡ answer_from ws z t (Reading.Is r) (length out)
  unfolding number_from
  accepted-answer w e f = rw (e, f, written-length frame (length out), written-number frame (length out))

  pub accepted-after : (w : Written) → command_number ws z t r.command ≡ 0 → w ≡ written_of 0 frame (length out) → w.number ≡ 0
      → command_after ws z t r.command ≡ after_from ws z t (Reading.Is r) (length out)
  unfolding number_from obeyed_by
  accepted-after w e f h = rw (e, ← written-number frame (length out), ← f, h)

  pub crowded_after : (w : Written) → command_number ws z t r.command ≡ 0 → w ≡ written_of 0 frame (length out) → w.number ≢ 0
      → ws ≡ after_from ws z t (Reading.Is r) (length out)
  unfolding number_from
  crowded_after w e f h = rw (e, ← written-number frame (length out), ← f, ne_eqb w.number 0 h)

-- all that the three steps before the store have shown
pub record Ready (ws : List ℕ) (z t : ℕ) (r : Request) (x : Decision) (w : Written) (out left : List ℕ) : Type 0 where
  pub number : x.number ≡ command_number ws z t r.command
  pub written : w ≡ written_of 0 (response_frame ws z t (Reading.Is r)) (length out)
  pub output : left ≡ out_from ws z t (Reading.Is r) out

pub ready : (ws : List ℕ) (z t : ℕ) (r : Request) (x : Decision) (o : Outcome) (s : Response) (w : Written) (out left : List ℕ) → length ws ≡ words
    → x ≡ decision_of ws z t r.command → o ≡ outcome_for ws t r.command x → s ≡ reply_to r x.number o
    → w ≡ written_of 0 (item_frame (response_item s)) (length out) → left ≡ left_by 0 (item_frame (response_item s)) out
    → Ready ws z t r x w out left
unfolding response_to response_frame
ready ws z t r x o s w out left full e f g k l =
    let p = responds ws z t r full x o e f in
    let q = g ∙ p in
    record {
      number = ap (λ (y : Response). y.status) p;
      written = k ∙ rw q;
      output = l ∙ rw q (left_whole (response_frame ws z t (Reading.Is r)) out);
    }

-- THE CALL, by what the frame reads as
abbrev Answers : List ℕ → ℕ → ℕ → Reading → List ℕ → Framed → List ℕ → List ℕ → Type 0
Answers ws z t reading out f device left =
    (f ≡ answer_from ws z t reading (length out)) × ((device ≡ after_from ws z t reading (length out)) × (left ≡ out_from ws z t reading out))

either : {A : Type 0} (b : Bool) (x : A) → x ≡ cond b x x
either true x = refl
either false x = refl

module _ (ws : List ℕ) (z t : ℕ) (out : List ℕ) where
  -- what a payload reads as is answered
  pub as_read : (o : Option Item) (reading : Reading) (f : Framed) (device left : List ℕ) → from_payload o ≡ reading
      → Answers ws z t reading out f device left → Answers ws z t (from_payload o) out f device left
  as_read o reading f device left e h = rw e h

  -- the frame's bytes are a payload behind its length, or not
  pub as_framed : (bytes : List ℕ) (f : Framed) (device left : List ℕ) → framed bytes ≡ true → Answers ws z t (from_payload (payload_of (payload_in bytes))) out f device left
      → (f ≡ frame_answer ws z t bytes (length out)) × ((device ≡ frame_after ws z t bytes (length out)) × (left ≡ frame_out ws z t bytes out))
  unfolding frame_answer frame_after frame_out read_request
  as_framed bytes f device left e h = rw e h

  pub not-framed : (bytes : List ℕ) (f : Framed) (device left : List ℕ) → framed bytes ≡ false → Answers ws z t (Reading.Refused 1) out f device left
      → (f ≡ frame_answer ws z t bytes (length out)) × ((device ≡ frame_after ws z t bytes (length out)) × (left ≡ frame_out ws z t bytes out))
  unfolding frame_answer frame_after frame_out read_request
  not-framed bytes f device left e h = rw e h

  pub unserved-answer : (i : ℕ) (s : Response) (w : Written) (left : List ℕ) → s ≡ status_alone i 4
      → w ≡ written_of 0 (item_frame (response_item s)) (length out) → left ≡ left_by 0 (item_frame (response_item s)) out
      → Answers ws z t (Reading.Unserved i) out (record { number = 4; length = w.length }) ws left
  unfolding number_from response_frame
  unserved-answer i s w left g e f =
      rw (e, f, g, written-length (item_frame (response_item (status_alone i 4))) (length out))
      (refl, (refl, left_whole (item_frame (response_item (status_alone i 4))) out))

  pub refused-reading : (n : ℕ) → Answers ws z t (Reading.Refused n) out (record { number = n; length = 0 }) ws out
  unfolding number_from response_frame obeyed_by put_whole put
  refused-reading n =
      (ap (λ (l : ℕ). record { number = n; length = l }) (either (leb 0 (length out)) 0), (either (eqb n 0) ws, either (leb (0 + 0) (length out)) out))
