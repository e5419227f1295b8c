-- A command as a call to the device: its number, what it leaves, and what is answered.
use Rattle.std.specs.Prelude.{ℕ, cond, List, eqb}
use Rattle.wire_messages.specs.declared.Command.{Command}
use Rattle.wire_messages.specs.declared.Outcome.{Outcome}
use Rattle.device_store.specs.Sizes.{slots}
use Rattle.device_store.specs.Zones.{free_zone, slot_of, joined, zone_of}
use Rattle.device_store.specs.Words.{clock_of, since_of, override_of, settings_of, zones_of, after}
use Rattle.device_holds.specs.Holds.{situation_of, with_zone, values_at}
pub use Rattle.command_tests.specs.Order.{command_tests}
use Rattle.command_effects.specs.Effects.{obeyed}
use Rattle.command_effects.specs.Outcomes.{is_capped, outcome_with}
use Rattle.device_calls.specs.Refusals.{first_of}
use Rattle.device_calls.specs.Calls.{zone_change}
use Rattle.device_calls.specs.declared.Decision.{Decision}
use Rattle.device_calls.specs.declared.Answer.{Answer}

-- the number of a command from zone z at t
unfoldable pub command_number : List ℕ → ℕ → ℕ → Command → ℕ
command_number ws z t c =
    first_of (command_tests (clock_of ws) (joined (zones_of ws) z) (zone_of (zones_of ws) z).up (settings_of ws) (override_of ws) t c)

unfoldable pub command_after : List ℕ → ℕ → ℕ → Command → List ℕ
command_after ws z t c =
    after ws (command_number ws z t c)
    (zone_change ws t (slot_of (zones_of ws) z) (obeyed (settings_of ws) c t (zone_of (zones_of ws) z)))

-- "Values in a response are those at the call's time, the command's own effect included if accepted"
unfoldable pub command_answer : List ℕ → ℕ → ℕ → Command → Answer
command_answer ws z t c =
    record {
      number = command_number ws z t c;
      outcome =
          outcome_with c (command_number ws z t c) (is_capped (settings_of ws) c)
          (values_at (situation_of (command_after ws z t c)) t);
    }

-- the same call in three steps: decided, answered from what would hold, applied
unfoldable pub decision_of : List ℕ → ℕ → ℕ → Command → Decision
decision_of ws z t c =
    cond (eqb (command_number ws z t c) 0)
    (record {
      number = 0;
      slot = slot_of (zones_of ws) z;
      zone = obeyed (settings_of ws) c t (zone_of (zones_of ws) z);
    })
    (record { number = command_number ws z t c; slot = slots; zone = free_zone })

-- what would be answered to a decision, from the words as they stand before it
unfoldable pub outcome_for : List ℕ → ℕ → Command → Decision → Outcome
outcome_for ws t c x =
    outcome_with c x.number (is_capped (settings_of ws) c) (values_at (with_zone (situation_of ws) x.slot x.zone) t)

-- a decision applied: a zone that may command is up before and after, so the second since which none is up stays
unfoldable pub enacted : List ℕ → ℕ → Decision → List ℕ
enacted ws t x =
    after ws x.number
    (record { time = t; slot = x.slot; zone = x.zone; since = since_of ws; overridden = override_of ws })
