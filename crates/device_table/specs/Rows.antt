-- The rows of the table from the numbers that the passes met. The public contracts of `device_holds` cite none of this: it parts their work.
use Rattle.std.specs.Prelude.{ℕ, ◌+◌, Bool, cond, ◌≡◌, List, ◌∷◌, ltb, ℤ, pos, negsuc, get_or}
use Rattle.refusals.specs.States.{FAILSAFE}
use Rattle.device_store.specs.Quantities.{helds, is_limit, is_setpoint, direction_of}
use Rattle.device_store.specs.Sizes.{most}
use Rattle.device_store.specs.Zones.{up_to}
use Rattle.device_store.specs.Words.{settings_of, since_of, override_of}
use Rattle.device_store.specs.declared.Settings.{Settings}
use Rattle.device_claims.specs.Claim.{Claim}
use Rattle.device_claims.specs.Pass.{claim_number, LowestValuesMet}
use Rattle.device_claims.specs.declared.passes.LowestValues.{LowestValues}
use Rattle.device_table.specs.States.{state_up, state_down}
use Rattle.device_table.specs.Leaves.{top_of, shown_below, shown_in}
use Rattle.device_table.specs.Smallest.{smallest_with}

-- the values of the first row
unfoldable pub values_up : ℕ → ℕ → List ℕ → List ℕ → List ℤ
values_up has o low lead = state_up o (shown_in has low lead 0) (shown_in has low lead 1) ∷ up_to (shown_in has low lead) helds

-- of the last two rows; of the second, where the claims f win among the zones' limits
unfoldable pub values_none : ℕ → List ℤ
values_none o = state_down o ∷ up_to (λ q. negsuc 0) helds

unfoldable pub safe_number : Settings → (ℕ → Claim) → ℕ → ℕ
safe_number s f q = cond (is_limit q) (smallest_with (get_or s.failsafe q 0) (f q)) (cond (is_setpoint q) most (claim_number (f q)))

unfoldable pub shown_safe : Settings → (ℕ → Claim) → ℕ → ℤ
shown_safe s f q = shown_below (top_of s.directions (direction_of q)) (safe_number s f q)

unfoldable pub values_down : Settings → ℕ → Bool → (ℕ → Claim) → List ℤ
values_down s o safe f = cond safe (pos FAILSAFE ∷ up_to (shown_safe s f) helds) (values_none o)

-- the number `low` stands for a claim: the smaller of it and the failsafe limit
abbrev pub SafeLow : ℕ → ℕ → ℕ → Type 0
SafeLow safe low r = (a : Claim) → low ≡ claim_number a → r ≡ smallest_with safe a

-- the numbers g stand for the limits' claims: the values of zones joined and none up
abbrev pub ShowsDown : List ℕ → ℕ → LowestValues → List ℤ → Type 0
ShowsDown ws t g v = (f : ℕ → Claim) → LowestValuesMet g f → v ≡ values_down (settings_of ws) (override_of ws) (ltb t (since_of ws + (settings_of ws).duration)) f
