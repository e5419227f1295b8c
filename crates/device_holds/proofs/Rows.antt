-- The four rows of the table of links, and the control state: what `Table` promises holds in every situation, at every second.
use Rattle.std.specs.Prelude.{None, Some as Is}
use Prim.Native.Nat.{ℕ, ◌+◌, ◌<◌, ◌≤◌}
use mathlib.Core.Bool.{Bool, true, false, cond, not, ◌&&◌, ◌||◌}
use mathlib.Core.Logic.{◌↔◌, inl, inr}
use mathlib.Core.Path.{◌≡◌, refl, sym, ap, ◌∙◌}
use mathlib.Core.List.{List, [], ◌∷◌}
use native.Mathlib.Decide.{dec_lt}
use native.Mathlib.Omega.{arith}
use borrow.Author.Tests.{lt-ltb, le-ltb, le-leb, lt-leb, ltb-true, ltb-false, leb-true}
use lib.Dec.{ltb, eqb}
use lib.ListN.{get_or}
use Rattle.refusals.specs.States.{AUTONOMOUS, CONTROLLED, LIMITED, FAILSAFE, OVERRIDE}
use Rattle.device_store.specs.Zones.{id_of, rank_of, free_zone, any, is_joined, is_up, any_joined, any_up, held_of}
use Rattle.device_store.specs.Quantities.{is_limit, is_setpoint, is_current, direction_of, supports}
use Rattle.device_holds.specs.Holds.{Claim, claim_of, goes_before, winner, amount_of, Situation, in_failsafe, smallest_with, failsafe_value, value_at, present, state_at}
use Rattle.refusals.specs.Refusals.{first_of}
use Rattle.wire_messages.specs.Options.{Amount}
use Rattle.device_holds.specs.Table.{Unexpired, Some, Each, SmallestLimit, NoBetter, BestSetpoint, SomeUp, SmallestSource, Failsafe, NoneUp, StateOrder, Table}
use Rattle.device_store.specs.declared.Zone.{Zone}
use Rattle.device_store.proofs.Tests.{never}
use Rattle.device_holds.proofs.Before.{not_earlier}
use Rattle.device_holds.proofs.Winner.{claim_there, wins}

-- no zone joined: none up
joined-first : (zs : List Zone) → any_joined zs ≡ false → any_up zs ≡ false
unfolding any_joined any_up any is_up
joined-first [] e = refl
joined-first (x ∷ zs) e = go (is_joined x) x.up (λ f. joined-first zs f) e
  where
    go : (a b : Bool) → (any is_joined zs ≡ false → any is_up zs ≡ false) → (a || any is_joined zs) ≡ false → ((a && b) || any is_up zs) ≡ false
    go true b more f = absurd (never f)
    go false b more f = more f

-- a power limit and a current limit are no setpoints, and a current limit is no power limit
pub limit-no_setpoint : (q : ℕ) → is_limit q ≡ true → is_setpoint q ≡ false
limit-no_setpoint q e = rw (lt-leb 2 q (ltb-true q 2 e))

setpoint-no_limit : (q : ℕ) → is_setpoint q ≡ true → is_limit q ≡ false
setpoint-no_limit q e = go (is_limit q) refl
  where
    go : (b : Bool) → is_limit q ≡ b → b ≡ false
    go true l = absurd (never (sym e ∙ limit-no_setpoint q l))
    go false l = refl

current-no_setpoint : (q : ℕ) → is_current q ≡ true → is_setpoint q ≡ false
current-no_setpoint q e = let h : 4 ≤ q = leb-true 4 q e in rw (le-leb 2 q (omega arith), le-ltb q 4 h)

current-no_limit : (q : ℕ) → is_current q ≡ true → is_limit q ≡ false
current-no_limit q e = let h : 4 ≤ q = leb-true 4 q e in le-ltb q 2 (omega arith)

-- what an amount tells of its claim
amount-there : (c : Claim) (v : ℕ) → amount_of c ≡ Is v → (c.there ≡ true) × (c.value ≡ v)
amount-there c v = go c.there refl
  where
    go : (b : Bool) → c.there ≡ b → cond b (Is c.value) None ≡ Is v → (c.there ≡ true) × (c.value ≡ v)
    go true e f = (e, cc)
    go false e f = let z : ◌≡◌ {A = ℕ} 0 1 = cc in absurd (omega arith)

amount-none : (c : Claim) → amount_of c ≡ None → c.there ≡ false
amount-none c = go c.there refl
  where
    go : (b : Bool) → c.there ≡ b → cond b (Is c.value) None ≡ None → b ≡ false
    go true e f = let z : ◌≡◌ {A = ℕ} 0 1 = cc in absurd (omega arith)
    go false e f = refl

module _ (s : Situation) (t : ℕ) where
  abbrev supported : ℕ → Bool
  supported q = supports s.settings.directions (direction_of q)

  -- THE BEST CLAIM is that of a zone, and no unexpired limit is smaller
  module _ (q : ℕ) where
    abbrev best : Claim
    best = winner t q s.zones

    same-value : (x : Zone) → Unexpired t q x → claim_of t q x ≡ best → (held_of x q).value ≡ best.value
    same-value x u e = ap (λ (c : Claim). c.value) (sym (claim_there t q x u) ∙ e)

    held_by_lem : best.there ≡ true → Some t q s.zones (λ x. (held_of x q).value ≡ best.value)
    held_by_lem e =
        let w : Some t q s.zones (λ x. claim_of t q x ≡ best) = (wins t q s.zones).held e in
        (w.0, w.1, w.2, same-value (get_or s.zones w.0 free_zone) w.2 w.3)

    none-smaller : is_setpoint q ≡ false → Each t q s.zones (λ y. best.value ≤ (held_of y q).value)
    unfolding goes_before
    none-smaller l i h u = ltb-false _ _ (rw (l, claim_there t q (get_or s.zones i free_zone) u) at ((wins t q s.zones).first i h u))

  unsupported-absent : (q : ℕ) → supported q ≡ false → value_at s t q ≡ None
  unfolding value_at
  unsupported-absent q e = rw e

  -- A VALUE FROM THE BEST CLAIM, as in the first row
  module _ (q : ℕ) (from : supported q ≡ true → value_at s t q ≡ amount_of (best q)) where
    claimed : (v : ℕ) → value_at s t q ≡ Is v → (supported q ≡ true) × ((best q).there ≡ true) × ((best q).value ≡ v)
    claimed v f = go (supported q) refl
      where
        go : (b : Bool) → supported q ≡ b → (supported q ≡ true) × ((best q).there ≡ true) × ((best q).value ≡ v)
        go true e = let b : ((best q).there ≡ true) × ((best q).value ≡ v) = amount-there (best q) v (sym (from e) ∙ f) in (e, b.0, b.1)
        go false e =
            let none : None ≡ Is v = sym (unsupported-absent q e) ∙ f in
            let z : ◌≡◌ {A = ℕ} 0 1 = cc in
            absurd (omega arith)

    smallest : is_setpoint q ≡ false → SmallestLimit s t q
    smallest l v e =
        let b : (supported q ≡ true) × ((best q).there ≡ true) × ((best q).value ≡ v) = claimed v e in
        let w : Some t q s.zones (λ x. (held_of x q).value ≡ (best q).value) = held_by_lem q b.1 in (
          (w.0, w.1, w.2, w.3 ∙ b.2),
          (λ i h u. rw (← b.2) (none-smaller q l i h u)),
        )

    none-held : supported q ≡ true → (value_at s t q ≡ None) ↔ Each t q s.zones (λ x. ⊥)
    none-held e = (
      λ f. (wins t q s.zones).none.0 (amount-none (best q) (sym (from e) ∙ f)),
      λ f. from e ∙ rw ((wins t q s.zones).none.1 f),
    )

  -- SOME ZONE UP
  module _ (up : any_up s.zones ≡ true) (q : ℕ) where
    from-best : supported q ≡ true → value_at s t q ≡ amount_of (best q)
    unfolding value_at
    from-best e = rw (e, up)

    pub value_there : (v : ℕ) → value_at s t q ≡ Is v → (supported q ≡ true) × ((best q).there ≡ true) × ((best q).value ≡ v)
    value_there = claimed q from-best

    pub smallest_limit : is_setpoint q ≡ false → SmallestLimit s t q
    smallest_limit = smallest q from-best

    no_better : (x y : Zone) → (rank_of x ≤ rank_of y) → (rank_of y ≡ rank_of x → id_of x ≤ id_of y) → NoBetter x y
    no_better x y h f =
        elim (dec_lt (rank_of x) (rank_of y)) [
          | yes k ↦ inl k
          | no k ↦ let e : rank_of y ≡ rank_of x = omega arith in inr (sym e, f e)
        ]

    best_setpoint : is_setpoint q ≡ true → BestSetpoint s t q
    unfolding goes_before
    best_setpoint l v e =
        let b : (supported q ≡ true) × ((best q).there ≡ true) × ((best q).value ≡ v) = value_there v e in
        let w : Some t q s.zones (λ x. claim_of t q x ≡ best q) = (wins t q s.zones).held b.1 in
        let x : Zone = get_or s.zones w.0 free_zone in
        let r : rank_of x ≡ (best q).rank = ap (λ (c : Claim). c.rank) (sym (claim_there t q x w.2) ∙ w.3) in
        let j : id_of x ≡ (best q).id = ap (λ (c : Claim). c.id) (sym (claim_there t q x w.2) ∙ w.3) in (
          w.0,
          w.1,
          w.2,
          (
            same-value q x w.2 w.3 ∙ b.2,
            λ i h u.
                let y : Zone = get_or s.zones i free_zone in
                let n : ((best q).rank ≤ rank_of y) × (rank_of y ≡ (best q).rank → (best q).id ≤ id_of y) =
                not_earlier (rank_of y) (id_of y) (best q).rank (best q).id (rw (l, claim_there t q y u) at ((wins t q s.zones).first i h u))
                in
                no_better x y (rw r n.0) (λ k. rw j (n.1 (k ∙ r))),
          ),
        )

    pub some_up_lem : SomeUp s t q
    some_up_lem = record { limit = smallest_limit; setpoint = best_setpoint; absent = none-held q from-best }

  -- ZONES JOINED, NONE UP
  module _ (down : any_up s.zones ≡ false) (joined : any_joined s.zones ≡ true) where
    row_is : in_failsafe s t ≡ ltb t (s.since + s.settings.duration)
    unfolding in_failsafe
    row_is = rw (down, joined)

    -- the failsafe limit, or the best claim where that is smaller
    smallest_source : (q : ℕ) → is_limit q ≡ true → SmallestSource s t q (smallest_with (get_or s.settings.failsafe q 0) (best q))
    unfolding smallest_with
    smallest_source q l = go (best q).there (ltb (best q).value n) refl refl
      where
        n : ℕ
        n = get_or s.settings.failsafe q 0

        go : (a b : Bool) → (best q).there ≡ a → ltb (best q).value n ≡ b → SmallestSource s t q (cond (a && b) (best q).value n)
        go true true e f = record { held = inr (held_by_lem q e); safe = omega (arith, ltb-true (best q).value n f); first = none-smaller q (limit-no_setpoint q l) }
        go true false e f = record { held = inl refl; safe = omega arith; first = λ i h u. omega (arith, ltb-false (best q).value n f, none-smaller q (limit-no_setpoint q l) i h u) }
        go false b e f = record { held = inl refl; safe = omega arith; first = λ i h u. absurd ((wins t q s.zones).none.0 e i h u) }

    setpoint-absent : in_failsafe s t ≡ true → (q : ℕ) → is_setpoint q ≡ true → value_at s t q ≡ None
    unfolding value_at failsafe_value
    setpoint-absent r q l = rw (down, r, setpoint-no_limit q l, l) (go (supported q))
      where
        go : (b : Bool) → ◌≡◌ {A = Amount} (cond b None None) None
        go true = refl
        go false = refl

    current-best : in_failsafe s t ≡ true → (q : ℕ) → is_current q ≡ true → supported q ≡ true → value_at s t q ≡ amount_of (best q)
    unfolding value_at failsafe_value
    current-best r q l e = rw (e, down, r, current-no_limit q l, current-no_setpoint q l)

    in_row : t < s.since + s.settings.duration → Failsafe s t
    unfolding state_at value_at failsafe_value
    in_row h =
        let r : in_failsafe s t ≡ true = row_is ∙ lt-ltb t (s.since + s.settings.duration) h in
        record {
          state = rw r;
          limit = λ q e l. (smallest_with (get_or s.settings.failsafe q 0) (best q), rw (e, down, r, l), smallest_source q l);
          setpoint = setpoint-absent r;
          current = λ q l. smallest q (current-best r q l) (current-no_setpoint q l);
          absent = λ q l. none-held q (current-best r q l);
        }

    out_of_row : in_failsafe s t ≡ false → (q : ℕ) → value_at s t q ≡ None
    unfolding value_at
    out_of_row r q = rw (down, r) (go (supported q))
      where
        go : (b : Bool) → ◌≡◌ {A = Amount} (cond b None None) None
        go true = refl
        go false = refl

    other_state : (a b c : Bool) → cond a OVERRIDE (cond b LIMITED (cond c CONTROLLED AUTONOMOUS)) ≡ FAILSAFE → ⊥
    other_state true b c e = omega arith
    other_state false true c e = omega arith
    other_state false false true e = omega arith
    other_state false false false e = omega arith

    past_row : s.since + s.settings.duration ≤ t → (state_at s t ≡ FAILSAFE → ⊥) × ((q : ℕ) → value_at s t q ≡ None)
    unfolding state_at
    past_row h =
        let r : in_failsafe s t ≡ false = row_is ∙ le-ltb t (s.since + s.settings.duration) h in
        (λ e. other_state (not (eqb s.override 0)) (present (value_at s t 0) || present (value_at s t 1)) (any_up s.zones) (rw r at e), out_of_row r)

    pub none-up : NoneUp s t
    none-up = record { before = in_row; past = past_row }

  -- THE REST
  none-joined : any_joined s.zones ≡ false → (q : ℕ) → value_at s t q ≡ None
  unfolding value_at in_failsafe
  none-joined e q = rw (joined-first s.zones e, e) (go (supported q))
    where
      go : (b : Bool) → ◌≡◌ {A = Amount} (cond b None None) None
      go true = refl
      go false = refl

  state_order : StateOrder s t
  unfolding state_at first_of
  state_order = refl

  pub table : Table s t
  table =
      record {
        some_up = some_up_lem;
        none_up = none-up;
        none_joined = none-joined;
        unsupported = unsupported-absent;
        state = state_order;
      }
