-- Every device that calls lead to agrees with the log of those calls.
use mathlib.Core.Path.{◌≡◌, refl, sym, ap, subst}
use mathlib.Core.Bool.{Bool, true, false, cond}
use mathlib.Core.List.{List, [], ◌∷◌}
use Prim.Native.Nat.{ℕ, ◌<◌}
use native.Mathlib.Omega.{arith}
use lib.ListN.{replicate, get_or-replicate}
use Rattle.device_store.specs.declared.Zone.{Zone}
use Rattle.device_store.specs.declared.Settings.{Settings}
use Rattle.device_store.specs.Sizes.{slots}
use Rattle.device_store.specs.Zones.{id_of, free_zone, joined}
use Rattle.device_store.specs.Words.{zones_of, fresh}
use Rattle.device_rules.specs.Rules.{bad_settings}
use Rattle.device_calls.specs.Start.{refused_settings, start_after}
use Rattle.device_store.proofs.Effects.{fresh-length, fresh-settings, fresh-clock, fresh-since, fresh-override, fresh-zones}
use Rattle.demands.specs.Run.{Call, run}
use Rattle.demands.specs.History.{newest, clock_by, override_by, joined_by, since_by}
use Rattle.demands.specs.Accepted.{log, started_with, InPairs}
use Rattle.demands.proofs.Same.{at, Same, joined_same}
use Rattle.demands.proofs.Agree.{Agree}
use Rattle.demands.proofs.Steps.{agree_next}

free : (i : ℕ) → i < slots → id_of (at (replicate slots free_zone) i) ≡ 0
unfolding id_of
free i p = ap id_of (get_or-replicate slots i free_zone free_zone p)

same-fresh : (s : Settings) → Same s (replicate slots free_zone) []
unfolding joined_by newest
same-fresh s =
    record {
      size = refl;
      there = λ i p q. absurd (omega (arith, free i p));
      back = λ z e. absurd (let w : ◌≡◌ {A = ℕ} 0 1 = cc in omega arith);
      one = λ i j p q l e. absurd (omega (arith, free i p));
    }

-- no zone has a slot of a fresh device
pub nobody-fresh : (s : Settings) (z : ℕ) → joined (zones_of (fresh s)) z ≡ false
unfolding joined_by newest
nobody-fresh s z = rw (fresh-zones s) (joined_same s (replicate slots free_zone) [] (same-fresh s) z)

agree_fresh : (s : Settings) → InPairs s → Agree s (fresh s) []
unfolding clock_by override_by since_by newest
agree_fresh s p =
    record {
      size = fresh-length s;
      settings = fresh-settings s p.maxima p.failsafe;
      clock = fresh-clock s;
      since = fresh-since s;
      override = fresh-override s;
      zones = subst (λ (l : List Zone). Same s l []) (sym (fresh-zones s)) (same-fresh s);
    }

pub started_pairs : (s : Settings) → InPairs s → InPairs (started_with s)
unfolding started_with
started_pairs s p = go (bad_settings s)
  where
    go : (b : Bool) → InPairs (cond b refused_settings s)
    go true = record { maxima = refl; failsafe = refl }
    go false = p

pub agree_run : (s : Settings) → InPairs s → (calls : List Call) → Agree (started_with s) (run s calls) (log (started_with s) calls)
unfolding run log start_after
agree_run s p [] = unfold started_with in agree_fresh (started_with s) (started_pairs s p)
agree_run s p (c ∷ calls) = agree_next (started_with s) (run s calls) (log (started_with s) calls) (agree_run s p calls) c
