-- What the numbers of a pass over the zones stand for.
use Rattle.std.specs.Prelude.{ℕ, zero, suc, ◌<◌, ◌≤◌, Bool, cond, ◌&&◌, ◌≡◌, ltb, leb, length, get_or, set}
use Rattle.device_store.specs.Quantities.{lowest_values, leading_setpoints, low_at, lead_at}
use Rattle.device_store.specs.Sizes.{ids, most}
use Rattle.device_store.specs.Zones.{precedence_of, held_of}
use Rattle.device_store.specs.declared.Held.{Held}
use Rattle.device_store.specs.declared.Zone.{Zone}
use Rattle.device_store.specs.Smaller.{nearer}
use Rattle.device_store.specs.Smaller.{lesser}
use Rattle.device_claims.specs.Claim.{Claim, claim_of, better}
use Rattle.device_claims.specs.declared.passes.LowestValues.{LowestValues}
use Rattle.device_claims.specs.declared.passes.LeadingSetpoints.{LeadingSetpoints}

-- a value that ends at `until` takes the place of one whose precedence is no smaller
unfoldable pub takes : ℕ → ℕ → ℕ → ℕ → Bool
takes t until precedence best = ltb t until && leb precedence best

-- a claim's value and its precedence, the largest word where the claim is not there
unfoldable pub claim_number : Claim → ℕ
claim_number a = cond a.there a.value most

unfoldable pub place_of : Claim → ℕ
place_of a = cond a.there (precedence_of a.id a.rank) most

-- f 0, then f 1, .. f (n - 1)
unfoldable pub turns : {A : Type 0} → (ℕ → A → A) → ℕ → A → A
turns f zero a = a
turns f (suc n) a = f n (turns f n a)

-- limit k met with one value more; setpoint k likewise
unfoldable pub low_step : ℕ → Held → ℕ → LowestValues → LowestValues
low_step t h k g =
    record {
      low = cond (ltb t h.until) (set g.low k (lesser h.value (get_or g.low k 0))) g.low;
      next = nearer t g.next h.until;
    }

unfoldable pub lead_step : ℕ → Held → ℕ → ℕ → LeadingSetpoints → LeadingSetpoints
lead_step t h precedence k g =
    record {
      precedence = cond (takes t h.until precedence (get_or g.precedence k 0)) (set g.precedence k precedence) g.precedence;
      lead = cond (takes t h.until precedence (get_or g.precedence k 0)) (set g.lead k h.value) g.lead;
      next = nearer t g.next h.until;
    }

-- the first n limits, the first n setpoints of a zone
abbrev pub lowest_values_with : ℕ → Zone → ℕ → LowestValues → LowestValues
lowest_values_with t x n g = turns (λ k. low_step t (held_of x (low_at k)) k) n g

abbrev pub leading_setpoints_with : ℕ → Zone → ℕ → LeadingSetpoints → LeadingSetpoints
leading_setpoints_with t x n g = turns (λ k. lead_step t (held_of x (lead_at k)) x.precedence k) n g

-- the first n limits of a zone are words
abbrev pub Bounded : Zone → ℕ → Type 0
Bounded x n = (k : ℕ) → k < n → (held_of x (low_at k)).value ≤ most

-- the precedence and the value that stand for a setpoint's claim
pub record Stands (a : Claim) (precedence value : ℕ) : Type 0 where
  pub place : precedence ≡ place_of a
  pub number : value ≡ claim_number a
  pub small : a.id < ids

-- the numbers met so far stand for the claim f q of each limit q, of each setpoint q
pub record LowestValuesMet (g : LowestValues) (f : ℕ → Claim) : Type 0 where
  pub size : length g.low ≡ lowest_values
  pub low : (k : ℕ) → k < lowest_values → get_or g.low k 0 ≡ claim_number (f (low_at k))

pub record LeadingSetpointsMet (g : LeadingSetpoints) (f : ℕ → Claim) : Type 0 where
  pub precedence_size : length g.precedence ≡ leading_setpoints
  pub lead_size : length g.lead ≡ leading_setpoints
  pub lead : (k : ℕ) → k < leading_setpoints → Stands (f (lead_at k)) (get_or g.precedence k 0) (get_or g.lead k 0)

-- one zone more: the numbers r stand for the better of what g stood for and what the zone claims
abbrev pub Adds : {A : Type 0} → (A → (ℕ → Claim) → Type 0) → ℕ → Zone → A → A → Type 0
Adds P t x g r = (f : ℕ → Claim) → P g f → P r (λ q. better q (f q) (claim_of t q x))
