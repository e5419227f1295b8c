-- L13: two controllers in one second. The proof of TwoControllers is two-controllers, in proofs/, and so for the others.
-- Assumes nothing: these are statements, for every content of a device's words.
use Rattle.std.specs.Prelude.{ℕ, true, false, ◌≢◌, ◌≡◌, List, map, ℤ, length}
use Rattle.wire_messages.specs.Numbers.{wire_number, served_command}
use Rattle.wire_messages.specs.declared.Request.{Request}
use Rattle.wire_messages.specs.declared.Response.{Response}
use Rattle.wire_requests.specs.Requests.{read_request}
use Rattle.wire_requests.specs.declared.reading.Reading.{Reading}
use Rattle.device_store.specs.Sizes.{words}
use Rattle.device_store.specs.Zones.{joined, zone_of}
use Rattle.device_store.specs.Words.{clock_of, override_of, settings_of, zones_of}
use Rattle.device_holds.specs.Holds.{situation_of, values_at}
use Rattle.device_rules.specs.Rules.{late}
use Rattle.command_effects.specs.Outcomes.{is_capped, outcome_with}
use Rattle.device_calls.specs.Calls.{ask_answer}
use Rattle.device_calls.specs.Commands.{command_number, command_after}
use Rattle.plan.specs.Plan.{rows_from}
use Rattle.kernel.specs.Frame.{response_to}
use Rattle.kernel_laws.specs.Sent.{Sent, sent_number, behind, end_of, numbers_of, Reordered, Roomy, Every, Different}

-- WHAT L13 ASKS OF A FRAME on a device
pub record Commands (ws : List ℕ) (f : Sent) : Type 0 where
  -- "both joined with links up"
  pub member : joined (zones_of ws) f.zone ≡ true
  pub up : (zone_of (zones_of ws) f.zone).up ≡ true
  -- "well-formed limit, setpoint, current-limit or clear commands": it reads as one of the commands 1 to 6
  pub request : Request
  pub reads : read_request f.bytes ≡ Reading.Is request
  pub served : served_command (wire_number request.command) ≡ true
  -- "each output buffer holds 2,052 bytes"
  pub room : Roomy f

-- and of the two
pub record TwoCommands (ws : List ℕ) (t : ℕ) (f g : Sent) : Type 0 where
  -- a device has so many words, by its type
  pub device : length ws ≡ words
  -- "two different zones"
  pub zones : f.zone ≢ g.zone
  -- "at the same accepted second"
  pub accepted : late (clock_of ws) t ≡ false
  pub first : Commands ws f
  pub second : Commands ws g

-- WHAT DOES NOT HANG ON THE ORDER
pub record EitherWay (ws : List ℕ) (t : ℕ) (f g : Sent) : Type 0 where
  -- "both orders end in equal states"
  pub states : behind (behind ws t f) t g ≡ behind (behind ws t g) t f
  -- "each command gets the same status in both"
  pub first : sent_number ws t f ≡ sent_number (behind ws t g) t f
  pub second : sent_number (behind ws t f) t g ≡ sent_number ws t g

-- L13, as it was asked
abbrev pub TwoControllers : Type 0
TwoControllers = (ws : List ℕ) (t : ℕ) (f g : Sent) → TwoCommands ws t f g → EitherWay ws t f g

-- and without most of it: any two frames, sound or not, of any two zone numbers, joined or not, at any second
abbrev pub AnyTwo : Type 0
AnyTwo =
    (ws : List ℕ) (t : ℕ) (f g : Sent) → length ws ≡ words → f.zone ≢ g.zone → Roomy f → Roomy g → EitherWay ws t f g

-- EVERY ORDER of any number of frames, no two of one zone
pub record SameEnd (ws : List ℕ) (t : ℕ) (fs gs : List Sent) : Type 0 where
  pub states : end_of ws t fs ≡ end_of ws t gs
  -- each frame gets the number that it would get if it came first
  pub numbers : numbers_of ws t fs ≡ map (sent_number ws t) fs
  pub again : numbers_of ws t gs ≡ map (sent_number ws t) gs
  -- so what holds at the end, and the plan from there, are the same
  pub holds : ask_answer (end_of ws t fs) ≡ ask_answer (end_of ws t gs)
  pub plan : rows_from (end_of ws t fs) ≡ rows_from (end_of ws t gs)

abbrev pub EveryOrder : Type 0
EveryOrder =
    (ws : List ℕ) (t : ℕ) (fs gs : List Sent) → length ws ≡ words → Different fs → Every Roomy fs → Reordered fs gs
    → SameEnd ws t fs gs

-- WHY: a frame's number hangs on these alone, of two contents of the words, and on no other zone's slot
pub record TestedAlike (vs ws : List ℕ) (z : ℕ) : Type 0 where
  pub clock : clock_of vs ≡ clock_of ws
  pub settings : settings_of vs ≡ settings_of ws
  pub override : override_of vs ≡ override_of ws
  pub member : joined (zones_of vs) z ≡ joined (zones_of ws) z
  pub up : (zone_of (zones_of vs) z).up ≡ (zone_of (zones_of ws) z).up

abbrev pub StatusByContent : Type 0
StatusByContent =
    (vs ws : List ℕ) (t : ℕ) (f : Sent) → TestedAlike vs ws f.zone → Roomy f → sent_number vs t f ≡ sent_number ws t f

-- WHAT MAY HANG ON THE ORDER: "Effective values inside the responses may differ". A response on a device, but for these
unfoldable pub response_with : List ℕ → ℕ → ℕ → Request → List ℤ → Response
response_with ws z t r vs =
    record {
      id = r.id;
      status = command_number ws z t r.command;
      outcome = outcome_with r.command (command_number ws z t r.command) (is_capped (settings_of ws) r.command) vs;
    }

-- the values in it: those at the second, its own effect included
abbrev pub values_behind : List ℕ → ℕ → ℕ → Request → List ℤ
values_behind ws z t r = values_at (situation_of (command_after ws z t r.command)) t

-- with or without another zone's frame before it, all but the values is one response
pub record OnlyValues (ws : List ℕ) (t : ℕ) (f g : Sent) (r : Request) : Type 0 where
  pub first : response_to ws f.zone t r ≡ response_with ws f.zone t r (values_behind ws f.zone t r)
  pub second : response_to (behind ws t g) f.zone t r ≡ response_with ws f.zone t r (values_behind (behind ws t g) f.zone t r)

abbrev pub OnlyValuesDiffer : Type 0
OnlyValuesDiffer =
    (ws : List ℕ) (t : ℕ) (f g : Sent) (r : Request) → length ws ≡ words → f.zone ≢ g.zone → Roomy g → OnlyValues ws t f g r

-- whichever of two comes last, its response is made from the same values: what holds behind both
abbrev pub LastShown : Type 0
LastShown =
    (ws : List ℕ) (t : ℕ) (f g : Sent) (p : TwoCommands ws t f g)
    → values_behind (behind ws t f) g.zone t p.second.request ≡ values_behind (behind ws t g) f.zone t p.first.request
