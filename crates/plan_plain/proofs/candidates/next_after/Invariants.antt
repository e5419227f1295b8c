-- Each turn meets one candidate more: what is met so far is the fold over those.
use mathlib.Core.Path.{◌≡◌}
use mathlib.Core.List.{foldl}
use Rattle.device_store.specs.Sizes.{end}
use Rattle.device_store.specs.Zones.{up_to}
use Rattle.device_holds.specs.Holds.{situation_of}
use Rattle.device_holds.specs.Dues.{nearer}
use Rattle.plan_plain.specs.Candidates.{candidate_at}
use Rattle.plan_plain.proofs.candidates.next_after.Given as goal

abbrev pub invariant-loop-k : goal.invariant-loop-k
invariant-loop-k l = l.best ≡ foldl (nearer l.t) end (up_to (candidate_at (situation_of l.d)) l.k)
