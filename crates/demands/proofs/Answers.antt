-- Each call's number is that of the first test that holds; a refusal leaves the device as it was.
use mathlib.Core.Path.{◌≡◌, refl, sym, ◌∙◌}
use mathlib.Core.Logic.{◌≢◌}
use mathlib.Core.Bool.{true, false, cond, not}
use mathlib.Core.List.{List, [], ◌∷◌, ◌++◌}
use Prim.Native.Nat.{ℕ, ◌≤◌}
use native.Mathlib.Omega.{arith}
use lib.Dec.{leb, eqb}
use lib.ListN.{length}
use borrow.Author.Tests.{ne_eqb}
use Rattle.wire_messages.specs.declared.Request.{Request}
use Rattle.wire_requests.specs.Requests.{read_request, reading_number}
use Rattle.wire_output.specs.Writing.{writing_number}
use Rattle.wire_requests.specs.declared.reading.Reading.{Reading}
use Rattle.device_store.specs.declared.Change.{Change}
use Rattle.device_store.specs.Zones.{any, joined, zone_of}
use Rattle.device_store.specs.Sizes.{words}
use Rattle.device_store.specs.Words.{clock_of, override_of, settings_of, zones_of, after}
use Rattle.device_calls.specs.Refusals.{first_of, Numbered}
use Rattle.device_calls.specs.Calls.{zone_change, join_number, join_after, leave_number, leave_after, link_number, link_after, override_number, override_after, clear_number, clear_after, move_number, move_after}
use Rattle.device_store.specs.Words.{head_change}
use Rattle.device_calls.specs.Commands.{command_tests, command_number, command_after}
use Rattle.device_store.proofs.Effects.{applied-clock}
use Rattle.kernel.specs.Frame.{response_frame, number_from, frame_number, obeyed_by, frame_after}
use Rattle.demands.specs.Run.{Call, join, leave, lost, back, override, clear, move, frame, number, next}
use Rattle.demands.specs.Tests.{read_tests, obey_tests, frame_tests, tests}
use Rattle.demands.specs.Answers.{time_of, Answers}
use Rattle.demands.proofs.FirstTests.{each, first-append, by_tests}
use Rattle.demands.proofs.Readings.{refuses, writes}
use Rattle.demands.proofs.Codecs.{read_first}

-- A FRAME
module _ (ws : List ℕ) (z t room : ℕ) where
  request_first : (r : Request) → first_of (obey_tests ws z t room (Reading.Is r)) ≡ number_from ws z t (Reading.Is r) room
  unfolding obey_tests number_from writing_number command_number first_of each
  request_first r = first-append (command_tests (clock_of ws) (joined (zones_of ws) z) (zone_of (zones_of ws) z).up (settings_of ws) (override_of ws) t r.command)
      ((not (leb (length (response_frame ws z t (Reading.Is r))) room), 15) ∷ []) refl

  -- a reading that is refused has its number, and of the others the device is asked
  reading_first : (r : Reading) → ((n : ℕ) → r ≡ Reading.Refused n → 1 ≤ n)
      → cond (eqb (reading_number r) 0) (first_of (obey_tests ws z t room r)) (reading_number r) ≡ number_from ws z t r room
  reading_first (Reading.Refused n) p = unfold number_from in rw (ne_eqb n 0 (λ e. omega (arith, p n refl)))
  reading_first (Reading.Unserved i) p = unfold number_from in refl
  reading_first (Reading.Is r) p = request_first r

  frame-first : (bytes : List ℕ) → first_of (frame_tests ws z t bytes room) ≡ frame_number ws z t bytes room
  unfolding frame_tests frame_number
  frame-first bytes =
      first-append (read_tests bytes) (obey_tests ws z t room (read_request bytes)) (unfold read_tests each in refl)
      ∙ rw (sym (read_first bytes)) (reading_first (read_request bytes) (refuses bytes))

-- EVERY CALL
first-same : (ws : List ℕ) (c : Call) → number ws c ≡ first_of (tests ws c)
unfolding number tests join_number leave_number link_number override_number clear_number move_number
first-same ws (join z k t) = refl
first-same ws (leave z t) = refl
first-same ws (lost z t) = refl
first-same ws (back z t) = refl
first-same ws (override r d t) = refl
first-same ws (clear t) = refl
first-same ws (move t) = refl
first-same ws (frame z t bytes room) = sym (frame-first ws z t room bytes)

after-refused : (ws : List ℕ) (n : ℕ) (c : Change) → n ≢ 0 → after ws n c ≡ ws
unfolding after
after-refused ws n c p = rw (ne_eqb n 0 p)

refused-same : (ws : List ℕ) (c : Call) → number ws c ≢ 0 → next ws c ≡ ws
unfolding number next join_after leave_after link_after override_after clear_after move_after frame_after
refused-same ws (join z k t) p = after-refused ws (join_number ws z k t) _ p
refused-same ws (leave z t) p = after-refused ws (leave_number ws z t) _ p
refused-same ws (lost z t) p = after-refused ws (link_number ws z false t) _ p
refused-same ws (back z t) p = after-refused ws (link_number ws z true t) _ p
refused-same ws (override r d t) p = after-refused ws (override_number ws r d t) _ p
refused-same ws (clear t) p = after-refused ws (clear_number ws t) _ p
refused-same ws (move t) p = after-refused ws (move_number ws t) _ p
refused-same ws (frame z t bytes room) p = unfold frame_number in rw (ne_eqb (number_from ws z t (read_request bytes) room) 0 p)

pub after-clock : (ws : List ℕ) (n : ℕ) (c : Change) → n ≡ 0 → length ws ≡ words → clock_of (after ws n c) ≡ c.time
unfolding after
after-clock ws n c e k = rw e (applied-clock ws c k)

reading_clock : (ws : List ℕ) (z t room : ℕ) (r : Reading) → ((n : ℕ) → r ≡ Reading.Refused n → 1 ≤ n) → number_from ws z t r room ≡ 0 → length ws ≡ words → clock_of (obeyed_by ws z t r) ≡ t
unfolding number_from obeyed_by command_after zone_change
reading_clock ws z t room (Reading.Refused n) p e k = absurd (omega (arith, p n refl))
reading_clock ws z t room (Reading.Unserved i) p e k = absurd (omega arith)
reading_clock ws z t room (Reading.Is r) p e k =
    after-clock ws (command_number ws z t r.command) _ (writes (command_number ws z t r.command) (response_frame ws z t (Reading.Is r)) room e) k

accepted-clock : (ws : List ℕ) (c : Call) → number ws c ≡ 0 → length ws ≡ words → clock_of (next ws c) ≡ time_of c
unfolding number next time_of join_after leave_after link_after override_after clear_after move_after zone_change head_change
accepted-clock ws (join z k t) e l = after-clock ws (join_number ws z k t) _ e l
accepted-clock ws (leave z t) e l = after-clock ws (leave_number ws z t) _ e l
accepted-clock ws (lost z t) e l = after-clock ws (link_number ws z false t) _ e l
accepted-clock ws (back z t) e l = after-clock ws (link_number ws z true t) _ e l
accepted-clock ws (override r d t) e l = after-clock ws (override_number ws r d t) _ e l
accepted-clock ws (clear t) e l = after-clock ws (clear_number ws t) _ e l
accepted-clock ws (move t) e l = after-clock ws (move_number ws t) _ e l
accepted-clock ws (frame z t bytes room) e l = unfold frame_after frame_number in rw e (reading_clock ws z t room (read_request bytes) (refuses bytes) e l)

-- no test has the number 0
obey_numbered : (ws : List ℕ) (z t room : ℕ) (bytes : List ℕ) (r : Reading) → Numbered (read_tests bytes ++ obey_tests ws z t room r)
unfolding read_tests obey_tests any
obey_numbered ws z t room bytes (Reading.Is r) = refl
obey_numbered ws z t room bytes (Reading.Unserved i) = refl
obey_numbered ws z t room bytes (Reading.Refused n) = refl

numbered : (ws : List ℕ) (c : Call) → Numbered (tests ws c)
unfolding tests frame_tests any
numbered ws (join z k t) = refl
numbered ws (leave z t) = refl
numbered ws (lost z t) = refl
numbered ws (back z t) = refl
numbered ws (override r d t) = refl
numbered ws (clear t) = refl
numbered ws (move t) = refl
numbered ws (frame z t bytes room) = obey_numbered ws z t room bytes (read_request bytes)

pub answers : (ws : List ℕ) (c : Call) → Answers ws c
answers ws c =
    record { numbered = by_tests (number ws c) (tests ws c) (first-same ws c) (numbered ws c); unchanged = refused-same ws c; clock = accepted-clock ws c }
