-- What a command set is claimed until its second of expiry, and not from that second on.
use Prim.Native.Nat.{ℕ, ◌+◌, ◌<◌, ◌≤◌}
use mathlib.Core.Path.{◌≡◌, refl}
use native.Mathlib.Nat.{min-eq_left}
use lib.ListN.{get_or}
use Rattle.wire_messages.specs.declared.Command.{Command}
use Rattle.device_store.specs.Sizes.{helds, most}
use Rattle.device_store.specs.Zones.{id_of, rank_of, nothing, is_joined, held_of}
use Rattle.device_holds.specs.Holds.{claim_of}
use Rattle.command_effects.specs.Effects.{action, until_of, done, obeyed}
use Rattle.command_effects.specs.Says.{duration_of}
use Rattle.kernel_laws.specs.Expiry.{end_of, Expiry}
use Rattle.device_store.specs.declared.Zone.{Zone}
use Rattle.device_store.specs.declared.Settings.{Settings}
use Rattle.device_store.proofs.Runs.{get_d-up_to}

until_end : (n d : ℕ) → n + d ≤ most → until_of n d ≡ end_of n d
unfolding until_of
until_end n d h = rw (min-eq_left h)

module _ (s : Settings) (c : Command) (x : Zone) where
  -- each quantity, once the zone has obeyed
  pub obeyed-held : (n q : ℕ) → q < helds → held_of (obeyed s c n x) q ≡ done (action s c q) (until_of n (duration_of c)) (held_of x q)
  unfolding obeyed held_of
  obeyed-held n q h = get_d-up_to (λ k. done (action s c k) (until_of n (duration_of c)) (get_or x.held k nothing)) helds q nothing h

  -- and nothing else of its record is moved
  kept : (n : ℕ) → (is_joined (obeyed s c n x) ≡ is_joined x) × (rank_of (obeyed s c n x) ≡ rank_of x) × (id_of (obeyed s c n x) ≡ id_of x)
  unfolding obeyed is_joined rank_of id_of
  kept n = (refl, refl, refl)

  pub expiry : Expiry s c x
  unfolding claim_of done
  expiry n t q v j h f e = rw (obeyed-held n q h, e, until_end n (duration_of c) f, (kept n).0, j, (kept n).1, (kept n).2)
