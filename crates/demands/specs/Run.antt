-- The calls that can move a device, with all their arguments, and the device that a list of calls leads to. An ask and a plan are lent the
-- device without the right to change it, so that no list of calls needs them.
use Rattle.std.specs.Prelude.{ℕ, true, false, List, [], ◌∷◌}
use Rattle.device_store.specs.declared.Settings.{Settings}
use Rattle.device_calls.specs.Start.{start_after}
use Rattle.device_calls.specs.Calls.{join_number, join_after, leave_number, leave_after, link_number, link_after, override_number, override_after, clear_number, clear_after, move_number, move_after}
use Rattle.kernel.specs.Frame.{frame_number, frame_after}

-- zones by their number, then rank, reason and direction, then the time, then a frame's bytes and the room of the lent buffer
pub data Call : Type 0 where
  join : ℕ → ℕ → ℕ → Call
  leave lost back : ℕ → ℕ → Call
  override : ℕ → ℕ → ℕ → Call
  clear move : ℕ → Call
  frame : ℕ → ℕ → List ℕ → ℕ → Call

-- a call's number, 0 where it is accepted: by the definitions that the calls' contracts cite
unfoldable pub number : List ℕ → Call → ℕ
number ws (join z k t) = join_number ws z k t
number ws (leave z t) = leave_number ws z t
number ws (lost z t) = link_number ws z false t
number ws (back z t) = link_number ws z true t
number ws (override r d t) = override_number ws r d t
number ws (clear t) = clear_number ws t
number ws (move t) = move_number ws t
number ws (frame z t bytes room) = frame_number ws z t bytes room

-- the device after a call
unfoldable pub next : List ℕ → Call → List ℕ
next ws (join z k t) = join_after ws z k t
next ws (leave z t) = leave_after ws z t
next ws (lost z t) = link_after ws z false t
next ws (back z t) = link_after ws z true t
next ws (override r d t) = override_after ws r d t
next ws (clear t) = clear_after ws t
next ws (move t) = move_after ws t
next ws (frame z t bytes room) = frame_after ws z t bytes room

-- the device after calls, newest first, from a fresh one
unfoldable pub run : Settings → List Call → List ℕ
run s [] = start_after s
run s (c ∷ calls) = next (run s calls) c
