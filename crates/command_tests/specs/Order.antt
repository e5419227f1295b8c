-- The tests of a command from a zone. Assumes nothing: these are definitions.
use Rattle.std.specs.Prelude.{ℕ, Bool, not, List, ◌∷◌}
use Rattle.wire_messages.specs.declared.Command.{Command}
use Rattle.device_store.specs.declared.Settings.{Settings}
use Rattle.device_rules.specs.Rules.{late}
use Rattle.command_tests.specs.Content.{is_unserved, content_tests}
use Rattle.refusals.specs.Refusals.{BAD_TIME, LINK_DOWN, NOT_JOINED, NOT_SERVED}

-- a command from zone z at t: document 01's order
abbrev pub command_tests : ℕ → Bool → Bool → Settings → ℕ → ℕ → Command → List (Bool × ℕ)
command_tests clock there up s override t c =
    (is_unserved c, NOT_SERVED) ∷ (late clock t, BAD_TIME) ∷ (not there, NOT_JOINED) ∷ (not up, LINK_DOWN) ∷ content_tests s override c
