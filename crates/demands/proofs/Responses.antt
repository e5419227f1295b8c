-- The output buffer beside a frame's number: a response with that status, or nothing.
use mathlib.Core.Path.{◌≡◌, refl, sym, ◌∙◌}
use mathlib.Core.Bool.{Bool, true, false, cond, not}
use mathlib.Core.List.{List}
use Prim.Native.Nat.{ℕ}
use native.Mathlib.Nat.{zero-add}
use lib.Dec.{leb, eqb}
use lib.ListN.{length}
use lib.Dec.{leb-zero}
use borrow.Author.Tests.{eqb-true}
use Rattle.wire_bytes.specs.Bytes.{put, put_whole}
use Rattle.wire_messages.specs.declared.Request.{Request}
use Rattle.wire_requests.specs.Requests.{read_request}
use Rattle.wire_responses.specs.Responses.{is_status}
use Rattle.wire_responses.specs.WrittenResponses.{status_alone}
use Rattle.wire_output.specs.Writing.{writing_number}
use Rattle.wire_requests.specs.declared.reading.Reading.{Reading}
use Rattle.device_store.specs.Zones.{joined, zone_of}
use Rattle.device_store.specs.Words.{clock_of, override_of, settings_of, zones_of}
use Rattle.device_calls.specs.Commands.{command_tests, command_number}
use Rattle.refusals.specs.Refusals.{first_of}
use Rattle.kernel.specs.Frame.{response_to, response_frame, number_from, frame_number, frame_answer, frame_out}
use Rattle.demands.specs.Answers.{Responds}
use Rattle.demands.proofs.Lists.{never}
use Rattle.demands.proofs.Readings.{refused-with}
use Rattle.demands.proofs.FirstTests.{each, first_passes}

-- a command's number is one that a response has
command_status : (ws : List ℕ) (z t : ℕ) (r : Request) → is_status (command_number ws z t r.command) ≡ true
unfolding command_number each is_status
command_status ws z t r =
    first_passes is_status (command_tests (clock_of ws) (joined (zones_of ws) z) (zone_of (zones_of ws) z).up (settings_of ws) (override_of ws) t r.command) refl refl

-- a response that does not fit leaves nothing
leaves_nothing : (response out : List ℕ) → leb (length response) (length out) ≡ false → (put_whole out 0 response ≡ out) × (cond {A = ℕ} (leb (length response) (length out)) (length response) 0 ≡ 0)
unfolding put_whole
leaves_nothing response out e = (rw (zero-add, e), rw e)

module _ (ws : List ℕ) (z t : ℕ) (out : List ℕ) where
  written : Reading → ℕ
  written r = cond (leb (length (response_frame ws z t r)) (length out)) (length (response_frame ws z t r)) 0

  reading_responds : (r : Reading) → ((n : ℕ) → r ≡ Reading.Refused n → is_status n ≡ false) → Responds (number_from ws z t r (length out)) out (put_whole out 0 (response_frame ws z t r)) (written r)
  unfolding written
  reading_responds (Reading.Refused n) p =
      record {
        none = λ e. unfold response_frame put_whole put in (rw (leb-zero (length out)), rw (leb-zero (length out)));
        some = λ e. unfold number_from in never (sym (p n refl) ∙ e);
      }
  reading_responds (Reading.Unserved i) p =
      record {
        none = λ e. unfold number_from is_status in never (sym e);
        some = λ e. unfold number_from response_frame in (status_alone i 4, refl, record { buffer = refl; counted = refl });
      }
  reading_responds (Reading.Is r) p = unfold number_from writing_number first_of in go (eqb n 0) refl (leb (length bytes) (length out)) refl
    where
      n : ℕ
      n = command_number ws z t r.command

      bytes : List ℕ
      bytes = response_frame ws z t (Reading.Is r)

      status : is_status n ≡ true
      status = command_status ws z t r

      go : (b : Bool) → eqb n 0 ≡ b → (f : Bool) → leb (length bytes) (length out) ≡ f
          → Responds (cond b (cond (not f) 15 0) n) out (put_whole out 0 bytes) (cond (leb (length bytes) (length out)) (length bytes) 0)
      go true e true f =
          record {
            none = λ q. unfold is_status in never (sym q);
            some = λ q. unfold response_frame response_to in (response_to ws z t r, eqb-true n 0 e, record { buffer = refl; counted = refl });
          }
      go true e false f = record { none = λ q. leaves_nothing bytes out f; some = λ q. unfold is_status in never q }
      go false e b f = record { none = λ q. never (sym q ∙ status); some = λ q. unfold response_frame response_to in (response_to ws z t r, refl, record { buffer = refl; counted = refl }) }

  pub responds : (bytes : List ℕ) → Responds (frame_number ws z t bytes (length out)) out (frame_out ws z t bytes out) (frame_answer ws z t bytes (length out)).length
  unfolding frame_number frame_out frame_answer written
  responds bytes = reading_responds (read_request bytes) (refused-with (λ n. is_status n ≡ false) (unfold is_status in refl) (unfold is_status in refl) (unfold is_status in refl) bytes)
