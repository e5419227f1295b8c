-- The nearest of the candidates met so far.
use Prim.Native.Nat.{ℕ, ◌+◌}
use mathlib.Core.Path.{◌≡◌, ◌∙◌}
use mathlib.Core.List.{[], ◌∷◌, foldl, foldl-append}
use native.Mathlib.Numerals.{add-one}
use Rattle.device_store.specs.Sizes.{end}
use Rattle.device_store.specs.Zones.{up_to}
use Rattle.device_holds.specs.Holds.{Situation}
use Rattle.device_holds.specs.Dues.{nearer}
use Rattle.plan_plain.specs.Candidates.{candidate_at}

-- one candidate more is met
pub met_more : (s : Situation) (t k best c r : ℕ) → best ≡ foldl (nearer t) end (up_to (candidate_at s) k) → c ≡ candidate_at s k → r ≡ nearer t best c
    → r ≡ foldl (nearer t) end (up_to (candidate_at s) (k + 1))
unfolding up_to
met_more s t k best c r inv e q = q ∙ rw (inv, e, add-one k, foldl-append (nearer t) end (up_to (candidate_at s) k) (candidate_at s k ∷ []))
