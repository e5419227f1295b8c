-- Who is named, from the table of links: what is shown is some zone's, or the failsafe's.
use Rattle.std.specs.Prelude.{None, Some as Is}
use Prim.Native.Nat.{ℕ, zero, suc, ◌+◌, ◌/◌, ◌<◌, ◌≤◌}
use mathlib.Core.Bool.{Bool, true, false, not}
use mathlib.Core.Logic.{◌⊎◌, inl, inr, ⊎_elim}
use mathlib.Core.Path.{◌≡◌, refl, sym, ap, ◌∙◌}
use native.Mathlib.Decide.{dec_lt}
use native.Mathlib.Omega.{arith}
use borrow.Author.Tests.{le-leb, ltb-false}
use lib.Dec.{eqb}
use lib.IntN.{pos, negsuc}
use lib.ListN.{get_or}
use Rattle.device_store.specs.Quantities.{is_limit, is_setpoint, is_current, direction_of, supports}
use Rattle.device_store.specs.Sizes.{ids, most}
use Rattle.device_store.specs.Zones.{id_of, rank_of, free_zone, is_joined, any_joined, any_up, held_of}
use Rattle.device_store.specs.declared.Zone.{Zone}
use Rattle.device_store.specs.Smaller.{lesser}
use Rattle.device_holds.specs.Holds.{Situation, value_at}
use Rattle.device_holds.specs.Table.{Some, Each, NoBetter, Failsafe}
use Rattle.device_holds.proofs.Rows.{table}
use Rattle.device_holders.specs.Holders.{NOBODY, BY_FAILSAFE, holds_value, best_placed, named, holder_of, holder_at}
use Rattle.device_holders.specs.declared.Holder.{Holder}
use Rattle.device_holders.proofs.Best.{IsBest, best_placed-is}
use Rattle.device_holders.specs.Naming.{Shows, ShowsNone, NamesZone, NamesFailsafe, Names}
use Rattle.device_holders.proofs.Holding.{holds_is, is_held, holds_joined, shown-as}

-- what is neither a power limit nor a setpoint is a current limit
is-current : (q : ℕ) → is_setpoint q ≡ false → is_limit q ≡ false → is_current q ≡ true
is-current q e l = let h : 2 ≤ q = ltb-false q 2 l in le-leb 4 q (ltb-false q 4 (rw (le-leb 2 q h) at e))

absent-is : {X : Type 0} {v : ℕ} → None ≡ Is v → X
absent-is e = absurd (let z : ◌≡◌ {A = ℕ} 0 1 = cc in omega arith)

-- an id is from 1 to 255
joined-id : (x : Zone) → is_joined x ≡ true → 1 ≤ id_of x
unfolding is_joined
joined-id x e = go (id_of x) e
  where
    go : (n : ℕ) → not (eqb n 0) ≡ true → 1 ≤ n
    go zero e = absurd (let z : ◌≡◌ {A = ℕ} 0 1 = cc in omega arith)
    go (suc n) e = omega arith

small_id : (x : Zone) → id_of x < ids
unfolding id_of
small_id x = omega arith

-- by rank and then by id is the order of precedences
precedence_order : (x y : Zone) → NoBetter x y → x.precedence ≤ y.precedence
unfolding rank_of id_of
precedence_order x y (inl h) = omega arith
precedence_order x y (inr h) = omega (arith, h.0, h.1)

order_precedence : (x y : Zone) → x.precedence ≤ y.precedence → NoBetter x y
unfolding rank_of id_of
order_precedence x y h =
    elim (dec_lt (x.precedence / ids) (y.precedence / ids)) [
      | yes k ↦ inl k
      | no k ↦ inr (omega arith, omega arith)
    ]

module _ (s : Situation) (t q : ℕ) where
  -- THE TABLE OF LINKS: a value that is there is some zone's, or the failsafe's
  module _ (v : ℕ) (e : value_at s t q ≡ Is v) where
    abbrev Mine : Type 0
    Mine = Some t q s.zones (λ x. (held_of x q).value ≡ v)

    -- the second row, while the failsafe lasts
    safe_row : any_up s.zones ≡ false → (any_joined s.zones ≡ true) × (t < s.since + s.settings.duration) × Failsafe s t
    safe_row d = go (any_joined s.zones) refl
      where
        go : (b : Bool) → any_joined s.zones ≡ b → (any_joined s.zones ≡ true) × (t < s.since + s.settings.duration) × Failsafe s t
        go false j = absent-is (sym ((table s t).none_joined j q) ∙ e)
        go true j =
            elim (dec_lt t (s.since + s.settings.duration)) [
              | yes h ↦ (j, h, ((table s t).none_up d j).before h)
              | no h ↦ absent-is (sym ((((table s t).none_up d j).past (omega arith)).1 q) ∙ e)
            ]

    supported : supports s.settings.directions (direction_of q) ≡ true
    supported = go (supports s.settings.directions (direction_of q)) refl
      where
        go : (b : Bool) → supports s.settings.directions (direction_of q) ≡ b → b ≡ true
        go true k = refl
        go false k = absent-is (sym ((table s t).unsupported q k) ∙ e)

    -- the best setpoint has the best place of all
    best_precedence : is_setpoint q ≡ true → Some t q s.zones (λ x. ((held_of x q).value ≡ v) × Each t q s.zones (λ y. x.precedence ≤ y.precedence))
    best_precedence l = go (any_up s.zones) refl
      where
        go : (b : Bool) → any_up s.zones ≡ b → Some t q s.zones (λ x. ((held_of x q).value ≡ v) × Each t q s.zones (λ y. x.precedence ≤ y.precedence))
        go true u =
            let w = ((table s t).some_up u q).setpoint l v e in
            (w.0, w.1, w.2, (w.3.0, λ i h n. precedence_order (get_or s.zones w.0 free_zone) (get_or s.zones i free_zone) (w.3.1 i h n)))
        go false d = absent-is (sym ((safe_row d).2.setpoint q l) ∙ e)

    -- where no zone has it
    no_zone : (Mine → ⊥) → ((holder_at s t q).until ≡ lesser most (s.since + s.settings.duration)) → NamesFailsafe s t q v
    no_zone none end = up (any_up s.zones) refl
      where
        row : any_up s.zones ≡ false → (a b : Bool) → is_limit q ≡ a → is_setpoint q ≡ b → NamesFailsafe s t q v
        row d true b l k =
            let r = safe_row d in
            let w = r.2.limit q supported l in
            let same : w.0 ≡ v = let f : Is w.0 ≡ Is v = sym w.1 ∙ e in cc in
            record {
              down = d;
              joined = r.0;
              lasts = r.1;
              limit = l;
              own = ⊎_elim (λ f. sym f ∙ same) (λ x. absurd (none (x.0, x.1, x.2, x.3 ∙ same))) w.2.held;
              larger = λ i h u.
                  let other : (held_of (get_or s.zones i free_zone) q).value ≡ v → ⊥ = λ f. none (i, h, u, f) in
                  let least : w.0 ≤ (held_of (get_or s.zones i free_zone) q).value = w.2.first i h u in
                  omega arith;
              until = end;
            }
        row d false true l k = absent-is (sym ((safe_row d).2.setpoint q k) ∙ e)
        row d false false l k = absurd (none ((safe_row d).2.current q (is-current q k l) v e).0)

        linked : any_up s.zones ≡ true → (b : Bool) → is_setpoint q ≡ b → NamesFailsafe s t q v
        linked u true k = let w = best_precedence k in absurd (none (w.0, w.1, w.2, w.3.0))
        linked u false k = absurd (none (((table s t).some_up u q).limit k v e).0)

        up : (b : Bool) → any_up s.zones ≡ b → NamesFailsafe s t q v
        up true u = linked u (is_setpoint q) refl
        up false d = row d (is_limit q) (is_setpoint q) refl refl

  -- WHO IS NAMED
  absent-holder : ShowsNone s t q → (holder_at s t q).who ≡ NOBODY
  unfolding holder_at holder_of
  absent-holder e = rw e

  module _ (v : ℕ) (e : Shows s t q v) where
    abbrev best : Zone
    best = best_placed (holds_value t q v) s.zones

    is_best : IsBest (holds_value t q v) s.zones
    is_best = best_placed-is (holds_value t q v) (holds_joined t q v) s.zones

    holder_zone : is_joined best ≡ true → holder_at s t q ≡ record { who = id_of best; until = (held_of best q).until }
    unfolding holder_at holder_of named
    holder_zone j = rw (e, j)

    holder_safe : is_joined best ≡ false → holder_at s t q ≡ record { who = BY_FAILSAFE; until = lesser most (s.since + s.settings.duration) }
    unfolding holder_at holder_of named
    holder_safe j = rw (e, j)

    zone_named : value_at s t q ≡ Is v → is_joined best ≡ true → Some t q s.zones (NamesZone s t q v)
    zone_named is j =
        let w = is_best.held j in
        let x : Zone = get_or s.zones w.0 free_zone in
        let o = holds_is t q v x w.2 in
        let h : holder_at s t q ≡ record { who = id_of x; until = (held_of x q).until } = rw w.3 (holder_zone j) in
        let first : Each t q s.zones (λ y. (held_of y q).value ≡ v → x.precedence ≤ y.precedence) =
        λ i b u f. rw w.3 (is_best.first i b (is_held t q v (get_or s.zones i free_zone) u f))
        in (
          w.0,
          w.1,
          o.0,
          record {
            who = ap (λ (k : Holder). k.who) h;
            until = ap (λ (k : Holder). k.until) h;
            own = o.1;
            first = λ i b u f. order_precedence x (get_or s.zones i free_zone) (first i b u f);
            setpoint = λ l i b u.
                let m = best_precedence v is l in
                let near : x.precedence ≤ (get_or s.zones m.0 free_zone).precedence = first m.0 m.1 m.2 m.3.0 in
                let far : (get_or s.zones m.0 free_zone).precedence ≤ (get_or s.zones i free_zone).precedence = m.3.1 i b u in
                order_precedence x (get_or s.zones i free_zone) (omega arith);
          },
        )

    safe_named : value_at s t q ≡ Is v → is_joined best ≡ false → NamesFailsafe s t q v
    safe_named is j =
        no_zone v is (λ w. is_best.none j w.0 w.1 (is_held t q v (get_or s.zones w.0 free_zone) w.2 w.3))
        (ap (λ (k : Holder). k.until) (holder_safe j))

  -- a value that is shown names a zone, with its id, or the failsafe
  abbrev Known : Type 0
  Known =
      (ShowsNone s t q × ((holder_at s t q).who ≡ NOBODY))
      ⊎ (((v : ℕ) × Shows s t q v × Some t q s.zones (NamesZone s t q v) × (1 ≤ (holder_at s t q).who) × ((holder_at s t q).who < ids))
      ⊎ ((v : ℕ) × Shows s t q v × NamesFailsafe s t q v × ((holder_at s t q).who ≡ BY_FAILSAFE)))

  known : Known
  known = ⊎_elim (λ k. go k.0 k.1 k.2 (is_joined (best k.0 k.2)) refl) (λ e. inl (e, absent-holder e)) (shown-as (value_at s t q))
    where
      go : (v : ℕ) → value_at s t q ≡ Is v → (e : Shows s t q v) → (b : Bool) → is_joined (best_placed (holds_value t q v) s.zones) ≡ b → Known
      go v is e true j =
          let h : (holder_at s t q).who ≡ id_of (best_placed (holds_value t q v) s.zones) = ap (λ (k : Holder). k.who) (holder_zone v e j) in
          inr (inl (v, e, zone_named v e is j, omega (arith, h, joined-id _ j), omega (arith, h, small_id (best_placed (holds_value t q v) s.zones))))
      go v is e false j = inr (inr (v, e, safe_named v e is j, ap (λ (k : Holder). k.who) (holder_safe v e j)))

  shown-not : {X : Type 0} {v : ℕ} → Shows s t q v → ShowsNone s t q → X
  shown-not e f = absurd (let g : pos _ ≡ negsuc 0 = sym e ∙ f in let z : ◌≡◌ {A = ℕ} 0 1 = cc in omega arith)

  pub names : Names s t q
  names = from known
    where
      from : Known → Names s t q
      from (inl k) =
          record {
            nobody = (λ e. k.0, λ e. k.1);
            zone = λ a b. absurd (omega (arith, k.1));
            failsafe = λ a. absurd (omega (arith, k.1));
            only = omega (arith, k.1);
          }
      from (inr (inl k)) =
          record {
            nobody = (λ e. absurd (omega (arith, k.3)), λ e. shown-not k.1 e);
            zone = λ a b. (k.0, k.1, k.2);
            failsafe = λ a. absurd (omega (arith, k.4));
            only = omega (arith, k.4);
          }
      from (inr (inr k)) =
          record {
            nobody = (λ e. absurd (omega (arith, k.3)), λ e. shown-not k.1 e);
            zone = λ a b. absurd (omega (arith, k.3));
            failsafe = λ a. (k.0, k.1, k.2);
            only = omega (arith, k.3);
          }
