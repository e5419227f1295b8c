-- Commands of two zones in one second. The proof of OthersTests is others-tests, in proofs/, and so for the others.
use Rattle.std.specs.Prelude.{ℕ, Bool, ◌≢◌, ◌≡◌, List, length}
use Rattle.wire_messages.specs.declared.Command.{Command}
use Rattle.device_store.specs.Sizes.{words}
use Rattle.device_store.specs.Zones.{joined, zone_of}
use Rattle.device_store.specs.Words.{clock_of, override_of, settings_of, zones_of}
use Rattle.device_store.specs.declared.Zone.{Zone}
use Rattle.command_effects.specs.Effects.{obeyed}
use Rattle.device_calls.specs.Commands.{command_tests, command_number, command_after}

-- what a command of zone z at t finds: document 01's tests, in their order; and what its zone would then hold
abbrev pub found : List ℕ → ℕ → ℕ → Command → List (Bool × ℕ)
found ws z t c = command_tests (clock_of ws) (joined (zones_of ws) z) (zone_of (zones_of ws) z).up (settings_of ws) (override_of ws) t c

abbrev pub would_hold : List ℕ → ℕ → ℕ → Command → Zone
would_hold ws z t c = obeyed (settings_of ws) c t (zone_of (zones_of ws) z)

-- another zone's command in that second leaves the tests alone, and so the number
abbrev pub OthersTests : Type 0
OthersTests =
    (ws : List ℕ) (z y t : ℕ) (c d : Command) → length ws ≡ words → z ≢ y → found (command_after ws y t d) z t c ≡ found ws z t c

abbrev pub OthersNumber : Type 0
OthersNumber =
    (ws : List ℕ) (z y t : ℕ) (c d : Command) → length ws ≡ words → z ≢ y → command_number (command_after ws y t d) z t c ≡ command_number ws z t c

-- and what the zone would hold
abbrev pub OthersHold : Type 0
OthersHold =
    (ws : List ℕ) (z y t : ℕ) (c d : Command) → length ws ≡ words → z ≢ y → would_hold (command_after ws y t d) z t c ≡ would_hold ws z t c

-- so the two leave the same words in either order, accepted or refused
abbrev pub EitherOrder : Type 0
EitherOrder =
    (ws : List ℕ) (z y t : ℕ) (c d : Command) → length ws ≡ words → z ≢ y
    → command_after (command_after ws y t d) z t c ≡ command_after (command_after ws z t c) y t d
