-- With room for every response a frame's number is that of its command, and the device behind it is the one that the command leaves.
use Prim.Native.Nat.{ℕ, ◌≤◌}
use mathlib.Core.Bool.{Bool, true, false, cond}
use mathlib.Core.Path.{◌≡◌, refl, sym}
use mathlib.Core.List.{List}
use native.Mathlib.Omega.{arith}
use borrow.Author.Tests.{le-leb, eqb-true}
use lib.Dec.{eqb}
use lib.ListN.{length}
use Rattle.refusals.specs.Refusals.{first_of}
use Rattle.wire_requests.specs.Requests.{read_request, reading_number}
use Rattle.wire_output.specs.Writing.{writing_number}
use Rattle.wire_requests.specs.declared.reading.Reading.{Reading}
use Rattle.device_store.specs.Words.{after}
use Rattle.device_calls.specs.Commands.{command_number, command_after}
use Rattle.kernel.specs.Frame.{response_frame, number_from, obeyed_by, after_from, frame_number, frame_after}
use Rattle.kernel_laws.proofs.Readable.{responses_short}
use Rattle.kernel_laws.specs.Sent.{Sent, sent_number, behind, Roomy}

-- the number of what a frame reads as, where there is room
unfoldable pub status_of : List ℕ → ℕ → ℕ → Reading → ℕ
status_of ws z t (Reading.Refused n) = reading_number (Reading.Refused n)
status_of ws z t (Reading.Unserved i) = reading_number (Reading.Unserved i)
status_of ws z t (Reading.Is r) = command_number ws z t r.command

same-or_zero : (n : ℕ) → cond (eqb n 0) 0 n ≡ n
same-or_zero n = go (eqb n 0) refl
  where
    go : (b : Bool) → eqb n 0 ≡ b → cond b 0 n ≡ n
    go true e = sym (eqb-true n 0 e)
    go false e = refl

either : {A : Type 0} (b : Bool) (x : A) → cond b x x ≡ x
either true x = refl
either false x = refl

once : {A : Type 0} (b : Bool) (x y : A) → cond b (cond b x y) y ≡ cond b x y
once true x y = refl
once false x y = refl

module _ (ws : List ℕ) (z t room : ℕ) where
  number_fits : (o : Reading) → length (response_frame ws z t o) ≤ room → number_from ws z t o room ≡ status_of ws z t o
  unfolding number_from status_of writing_number first_of
  number_fits (Reading.Refused n) h = refl
  number_fits (Reading.Unserved i) h = refl
  number_fits (Reading.Is r) h = rw (le-leb _ _ h) (same-or_zero (command_number ws z t r.command))

  after-fits : (o : Reading) → length (response_frame ws z t o) ≤ room → after_from ws z t o room ≡ obeyed_by ws z t o
  unfolding status_of obeyed_by command_after after
  after-fits (Reading.Refused n) h = either (eqb (number_from ws z t (Reading.Refused n) room) 0) ws
  after-fits (Reading.Unserved i) h = either (eqb (number_from ws z t (Reading.Unserved i) room) 0) ws
  after-fits (Reading.Is r) h = rw (number_fits (Reading.Is r) h) (once (eqb (command_number ws z t r.command) 0) _ ws)

-- 2,052 bytes are room for every response
module _ (ws : List ℕ) (t : ℕ) (f : Sent) (h : Roomy f) where
  fits : length (response_frame ws f.zone t (read_request f.bytes)) ≤ f.room
  fits = let s = responses_short ws f.zone t f.bytes in omega arith

  pub number_is : sent_number ws t f ≡ status_of ws f.zone t (read_request f.bytes)
  unfolding frame_number
  number_is = number_fits ws f.zone t f.room (read_request f.bytes) fits

  pub behind-is : behind ws t f ≡ obeyed_by ws f.zone t (read_request f.bytes)
  unfolding frame_after
  behind-is = after-fits ws f.zone t f.room (read_request f.bytes) fits
