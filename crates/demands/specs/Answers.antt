-- What a call answers beside its tests, what it leaves alone, and the table's column "Response frame".
use Rattle.std.specs.Prelude.{ℕ, ◌≡◌, ◌≢◌, ◌↔◌, Bool, true, false, cond, List, [], ◌∷◌, leb, length}
use Rattle.wire_bytes.specs.Bytes.{put_whole}
use Rattle.wire_messages.specs.declared.Request.{Request}
use Rattle.wire_messages.specs.declared.Response.{Response}
use Rattle.wire_responses.specs.Responses.{is_status}
use Rattle.wire_responses.specs.WrittenResponses.{response_item}
use Rattle.wire_output.specs.Writing.{item_frame}
use Rattle.device_store.specs.declared.Settings.{Settings}
use Rattle.device_store.specs.Sizes.{words}
use Rattle.device_store.specs.Zones.{joined}
use Rattle.device_store.specs.Words.{clock_of, override_of, settings_of, zones_of}
use Rattle.device_holds.specs.Holds.{situation_of, values_at}
use Rattle.device_calls.specs.Refusals.{FirstAt, NoneHolds}
use Rattle.device_rules.specs.Rules.{bad_settings}
use Rattle.device_calls.specs.Start.{start_number, start_after}
use Rattle.command_effects.specs.Outcomes.{is_capped, outcome_with}
use Rattle.device_calls.specs.Commands.{command_number, command_after}
use Rattle.demands.specs.Run.{Call, join, leave, lost, back, override, clear, move, frame, number, next}
use Rattle.demands.specs.Accepted.{started_with}
use Rattle.demands.specs.Tests.{tests}
use Rattle.refusals.specs.Refusals.{BAD_SETTINGS}

-- a number beside the tests in their order
pub record ByTests (n : ℕ) (l : List (Bool × ℕ)) : Type 0 where
  -- "A refusal carries the number that the table .. gives for that case, and is not given otherwise": that of the first test that holds
  pub refused : (m : ℕ) → m ≢ 0 → (n ≡ m) ↔ FirstAt l m
  -- accepted exactly where no test holds
  pub accepted : (n ≡ 0) ↔ NoneHolds l

unfoldable pub time_of : Call → ℕ
time_of (join z k t) = t
time_of (leave z t) = t
time_of (lost z t) = t
time_of (back z t) = t
time_of (override r d t) = t
time_of (clear t) = t
time_of (move t) = t
time_of (frame z t bytes room) = t

-- a call to a device in any state
pub record Answers (ws : List ℕ) (c : Call) : Type 0 where
  pub numbered : ByTests (number ws c) (tests ws c)
  -- "It changes neither state nor clock"
  pub unchanged : number ws c ≢ 0 → next ws c ≡ ws
  -- "Every accepted call moves the clock to its time"
  pub clock : number ws c ≡ 0 → length ws ≡ words → clock_of (next ws c) ≡ time_of c

-- a start, whatever the words held before: refused with 16 alone, and then fresh with settings of its own
pub record Starts (s : Settings) : Type 0 where
  pub numbered : ByTests (start_number s) ((bad_settings s, BAD_SETTINGS) ∷ [])
  -- "A fresh device's clock is 0"
  pub clock : clock_of (start_after s) ≡ 0
  -- "settings that then stay": they are read back, or those of a refused start
  pub settings : settings_of (start_after s) ≡ started_with s
  pub nobody : (z : ℕ) → joined (zones_of (start_after s)) z ≡ false
  pub override : override_of (start_after s) ≡ 0

-- the output buffer and its length: the response from the front where it fits whole, what lies behind it as it was
pub record Written (before after : List ℕ) (written : ℕ) (r : Response) : Type 0 where
  pub buffer : after ≡ put_whole before 0 (item_frame (response_item r))
  pub counted : written ≡ cond (leb (length (item_frame (response_item r))) (length before)) (length (item_frame (response_item r))) 0

-- the output buffer beside a frame's number: a response with that status, written where it fits whole, or nothing where the table allows none
pub record Responds (n : ℕ) (before after : List ℕ) (written : ℕ) : Type 0 where
  pub none : is_status n ≡ false → (after ≡ before) × (written ≡ 0)
  pub some : is_status n ≡ true → (r : Response) × (r.status ≡ n) × Written before after written r

-- the one response that the state, the zone, the second and the request determine
pub record Determined (ws : List ℕ) (z t : ℕ) (q : Request) (r : Response) : Type 0 where
  pub id : r.id ≡ q.id
  pub status : r.status ≡ command_number ws z t q.command
  -- "Values in a response are those at the call's time, the command's own effect included if accepted"
  pub result : r.outcome
      ≡ outcome_with q.command (command_number ws z t q.command) (is_capped (settings_of ws) q.command) (values_at (situation_of (command_after ws z t q.command)) t)
