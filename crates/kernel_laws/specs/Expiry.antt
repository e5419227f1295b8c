-- What a command set, and until when it is claimed.
use Rattle.std.specs.Prelude.{ℕ, ◌+◌, ◌<◌, ◌≤◌, true, cond, ◌≡◌, ltb, eqb}
use Rattle.wire_messages.specs.declared.Command.{Command}
use Rattle.device_store.specs.Sizes.{helds, most}
use Rattle.device_store.specs.Zones.{id_of, rank_of, is_joined}
use Rattle.device_store.specs.declared.Zone.{Zone}
use Rattle.device_store.specs.declared.Settings.{Settings}
use Rattle.device_holds.specs.Holds.{no_claim, claim_of}
use Rattle.command_effects.specs.Effects.{action, obeyed}
use Rattle.command_effects.specs.Says.{duration_of}
use Rattle.command_effects.specs.declared.actions.Action.{Action}

-- "A value set at second n with duration d > 0 holds while t < n + d"; without a duration, at every second below the largest word
abbrev pub end_of : ℕ → ℕ → ℕ
end_of n d = cond (eqb d 0) most (n + d)

abbrev pub Expiry : Settings → Command → Zone → Type 0
Expiry s c x =
    (n t q v : ℕ) → is_joined x ≡ true → q < helds → n + duration_of c ≤ most → action s c q ≡ Action.Put v
    → claim_of t q (obeyed s c n x)
    ≡ cond (ltb t (end_of n (duration_of c)))
    (record { there = true; value = v; rank = rank_of x; id = id_of x })
    no_claim
