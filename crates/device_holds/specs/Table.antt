-- What the table of links promises, in the tender's words: one statement for all quantities and directions.
use Rattle.std.specs.Prelude.{ℕ, ◌+◌, ◌<◌, ◌≤◌, true, false, not, ◌||◌, ◌⊎◌, ◌↔◌, ◌≡◌, List, [], ◌∷◌, eqb, length, get_or, None, Some as Is}
use Rattle.refusals.specs.States.{CONTROLLED, LIMITED, FAILSAFE, OVERRIDE}
use Rattle.device_store.specs.Quantities.{is_limit, is_setpoint, is_current, direction_of, supports}
use Rattle.device_store.specs.Zones.{id_of, rank_of, free_zone, is_joined, any_joined, any_up, held_of}
use Rattle.device_holds.specs.Holds.{claim_of, goes_before, winner, Situation, in_failsafe, value_at, present, state_at}
use Rattle.refusals.specs.Refusals.{first_of}
use Rattle.device_store.specs.declared.Zone.{Zone}

-- a zone that is joined and whose value of quantity q has not expired at t
abbrev pub Unexpired : ℕ → ℕ → Zone → Type 0
Unexpired t q x = (is_joined x ≡ true) × (t < (held_of x q).until)

-- what P says holds of some slot's zone with an unexpired value; of each
abbrev pub Some : ℕ → ℕ → List Zone → (Zone → Type 0) → Type 0
Some t q zs P = (i : ℕ) × (i < length zs) × Unexpired t q (get_or zs i free_zone) × P (get_or zs i free_zone)

abbrev pub Each : ℕ → ℕ → List Zone → (Zone → Type 0) → Type 0
Each t q zs P = (i : ℕ) → i < length zs → Unexpired t q (get_or zs i free_zone) → P (get_or zs i free_zone)

-- the winning claim is an unexpired one, and none goes before it; there is a winner exactly when there is one
pub record Wins (t q : ℕ) (zs : List Zone) : Type 0 where
  pub held : (winner t q zs).there ≡ true → Some t q zs (λ x. claim_of t q x ≡ winner t q zs)
  pub first : Each t q zs (λ x. goes_before q (claim_of t q x) (winner t q zs) ≡ false)
  pub none : ((winner t q zs).there ≡ false) ↔ Each t q zs (λ x. ⊥)

-- "smallest unexpired of all joined zones": power limits and current limits
abbrev pub SmallestLimit : Situation → ℕ → ℕ → Type 0
SmallestLimit s t q =
    (v : ℕ) → value_at s t q ≡ Is v → Some t q s.zones (λ x. (held_of x q).value ≡ v) × Each t q s.zones (λ y. v ≤ (held_of y q).value)

-- "from the best rank that has one; equal rank, smaller id"
abbrev pub NoBetter : Zone → Zone → Type 0
NoBetter x y = (rank_of x < rank_of y) ⊎ ((rank_of x ≡ rank_of y) × (id_of x ≤ id_of y))

abbrev pub BestSetpoint : Situation → ℕ → ℕ → Type 0
BestSetpoint s t q =
    (v : ℕ) → value_at s t q ≡ Is v → Some t q s.zones (λ x. ((held_of x q).value ≡ v) × Each t q s.zones (λ y. NoBetter x y))

-- the first row: "some zone up"; absent exactly when no joined zone has an unexpired value
pub record SomeUp (s : Situation) (t q : ℕ) : Type 0 where
  pub limit : is_setpoint q ≡ false → SmallestLimit s t q
  pub setpoint : is_setpoint q ≡ true → BestSetpoint s t q
  pub absent : supports s.settings.directions (direction_of q) ≡ true → (value_at s t q ≡ None) ↔ Each t q s.zones (λ x. ⊥)

-- "the smallest of the failsafe limit and all unexpired limits of joined zones": some source holds it, and none is smaller
pub record SmallestSource (s : Situation) (t q v : ℕ) : Type 0 where
  pub held : (v ≡ get_or s.settings.failsafe q 0) ⊎ Some t q s.zones (λ x. (held_of x q).value ≡ v)
  pub safe : v ≤ get_or s.settings.failsafe q 0
  pub first : Each t q s.zones (λ y. v ≤ (held_of y q).value)

-- the second row: in a supported direction there is a limit; setpoints are absent; current limits hold as in the first row
pub record Failsafe (s : Situation) (t : ℕ) : Type 0 where
  pub state : state_at s t ≡ FAILSAFE
  pub limit : (q : ℕ) → supports s.settings.directions (direction_of q) ≡ true → is_limit q ≡ true → (v : ℕ) × (value_at s t q ≡ Is v) × SmallestSource s t q v
  pub setpoint : (q : ℕ) → is_setpoint q ≡ true → value_at s t q ≡ None
  pub current : (q : ℕ) → is_current q ≡ true → SmallestLimit s t q
  pub absent : (q : ℕ) → is_current q ≡ true → supports s.settings.directions (direction_of q) ≡ true → (value_at s t q ≡ None) ↔ Each t q s.zones (λ x. ⊥)

-- the second and third rows: the failsafe holds below since + duration, and from that second on nothing does
pub record NoneUp (s : Situation) (t : ℕ) : Type 0 where
  pub before : t < s.since + s.settings.duration → Failsafe s t
  pub past : s.since + s.settings.duration ≤ t → (state_at s t ≡ FAILSAFE → ⊥) × ((q : ℕ) → value_at s t q ≡ None)

-- "FAILSAFE in the second row; else OVERRIDE if set; else LIMITED if a limit is present; else CONTROLLED if a zone is up"; else AUTONOMOUS, which is 0
abbrev pub StateOrder : Situation → ℕ → Type 0
StateOrder s t =
    state_at s t
    ≡ first_of (
    (in_failsafe s t, FAILSAFE)
    ∷ (not (eqb s.override 0), OVERRIDE)
    ∷ (present (value_at s t 0) || present (value_at s t 1), LIMITED)
    ∷ (any_up s.zones, CONTROLLED)
    ∷ [])

-- the whole table
pub record Table (s : Situation) (t : ℕ) : Type 0 where
  pub some_up : any_up s.zones ≡ true → (q : ℕ) → SomeUp s t q
  pub none_up : any_up s.zones ≡ false → any_joined s.zones ≡ true → NoneUp s t
  pub none_joined : any_joined s.zones ≡ false → (q : ℕ) → value_at s t q ≡ None
  pub unsupported : (q : ℕ) → supports s.settings.directions (direction_of q) ≡ false → value_at s t q ≡ None
  pub state : StateOrder s t

-- two situations that differ in links, and in since when none is up, alone
pub record ButForLinks (a b : Situation) : Type 0 where
  pub settings : a.settings ≡ b.settings
  pub override : a.override ≡ b.override
  pub slots : length a.zones ≡ length b.zones
  pub precedences : (i : ℕ) → (get_or a.zones i free_zone).precedence ≡ (get_or b.zones i free_zone).precedence
  pub held : (i : ℕ) → (get_or a.zones i free_zone).held ≡ (get_or b.zones i free_zone).held

-- "Losing the link must not loosen a limit": while the failsafe lasts, a power or current limit that held with a link up holds without one, and is no larger
abbrev pub LosingLinks : Type 0
LosingLinks =
    (lost linked : Situation) → ButForLinks lost linked → any_up lost.zones ≡ false → any_up linked.zones ≡ true
    → (t : ℕ) → t < lost.since + lost.settings.duration
    → (q v : ℕ) → is_setpoint q ≡ false → value_at linked t q ≡ Is v → (w : ℕ) × (value_at lost t q ≡ Is w) × (w ≤ v)

-- two situations that differ in current limits and setpoints alone
pub record ButForCurrents (a b : Situation) : Type 0 where
  pub settings : a.settings ≡ b.settings
  pub override : a.override ≡ b.override
  pub since : a.since ≡ b.since
  pub slots : length a.zones ≡ length b.zones
  pub precedences : (i : ℕ) → (get_or a.zones i free_zone).precedence ≡ (get_or b.zones i free_zone).precedence
  pub links : (i : ℕ) → (get_or a.zones i free_zone).up ≡ (get_or b.zones i free_zone).up
  pub limits : (i q : ℕ) → is_limit q ≡ true → held_of (get_or a.zones i free_zone) q ≡ held_of (get_or b.zones i free_zone) q

-- currents never move the control state
abbrev pub StateAlone : Type 0
StateAlone = (a b : Situation) → ButForCurrents a b → (t : ℕ) → state_at a t ≡ state_at b t
