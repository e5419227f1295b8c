-- A map of phases, written and read back, read and written again, each phase as one reader and one writer have it. Assumes nothing.
use Prim.Native.Nat.{ℕ, zero, suc, ◌+◌, ◌^◌, ◌≤◌, ◌<◌}
use mathlib.Core.Path.{◌≡◌, refl, sym, ap, subst, ◌∙◌}
use mathlib.Core.Bool.{Bool, true, false, cond}
use mathlib.Core.Option.{Option, some, none, bind}
use native.Mathlib.Omega.{arith}
use lib.ListN.{length, length-append}
use lib.Dec.{ltb, eqb}
use borrow.Author.Tests.{eqb-false, eq-eqb, ne_eqb, ltb-true}
use Rattle.wire_cbor.specs.Item.{Item, Pairs, count_pairs, Ok, OkPairs}
use Rattle.wire_cbor.specs.Find.{value_of}
use Rattle.wire_heads.proofs.Widths.{head-length, head-short}
use Rattle.wire_messages.specs.declared.Phases.{Phases}
use Rattle.wire_messages.specs.declared.CurrentResult.{CurrentResult}
use Rattle.wire_fields.specs.Fields.{Fields, map_in, needed, present, value_in, amount_in, value_item, amount_item}
use Rattle.wire_fields.specs.Puts.{field_bytes, pairs_of}
use Rattle.wire_fields.specs.ByPhase.{phases_named, only_phases, keys_below, each_phase, by_phase, phase_fields, phase_map, phases_from, currents_from, phases_in, currents_in, phases_item, currents_item}
use Rattle.wire_fields.proofs.Added.{count-more, count_none}
use Rattle.wire_fields.proofs.Joined.{and_left, and_right, or_left, or_right}
use Rattle.wire_fields.proofs.OnlyLaws.{only-phases}
use Rattle.wire_responses.specs.WrittenResponses.{amount_up_to}
use Rattle.wire_laws.specs.RoundTrips.{Phases64}
use Rattle.wire_laws.proofs.Maps.{Ascending, values, OkField, ShortFields, wider, has_key, ok_map, map-short, same_map}
use Rattle.wire_laws.proofs.FieldsBack.{Allowed, value_back, amount-back, ok_value, ok_amount, short_value, short_amount}
use Rattle.wire_laws.proofs.FieldsAgain.{no_value, same-inside, bind-parts, map-again, value_again, amount-again}
use Rattle.wire_laws.proofs.Trips.{value_ok, map-ok}

-- a map with its key has at most 72 bytes, as every number has
pub few_short : (fs : Fields) → ShortFields fs 18 → ShortFields fs 72
few_short fs h = wider fs 18 72 (omega arith) h

-- THE FIELDS OF THE MAP
module _ (a b c : Option Item) where
  pub phases-ascend : Ascending (phase_fields a b c) 0
  phases-ascend = (omega arith, (omega arith, (omega arith, tt)))

  pub phases-ok : (d : ℕ) → OkField a d → OkField b d → OkField c d → OkField (phase_map a b c) (suc d)
  phases-ok d x y z = ok_map (phase_fields a b c) d (omega arith) phases-ascend (omega arith, x, (omega arith, y, (omega arith, z, tt)))

  pub phases-short : (k : ℕ) → ShortFields (phase_fields a b c) 18 → length (field_bytes k (phase_map a b c)) ≤ 72
  unfolding field_bytes
  phases-short k h = rw length-append (omega (arith, head-length 0 k, head-short k, (map-short (phase_fields a b c) 18 h).1))

  -- what is written names its phases and nothing else
  only-these : only_phases (present (phase_fields a b c)) ≡ true
  unfolding only_phases phases_named
  only-these =
      let fs : Fields = phase_fields a b c in
      let n : count_pairs (present fs) ≡ pairs_of a + (pairs_of b + pairs_of c) = rw (count-more, count-more, count-more, count_none) (omega arith) in
      let v : (k : ℕ) → _ = λ (k : ℕ). values fs 0 k phases-ascend in
      rw (v 0, v 1, v 2) (eq-eqb _ _ n)

  -- WRITTEN AND READ BACK
  module _ {X Y : Type 0} (f : Option Item → Option X) (g : X → X → X → Y) where
    pub phases-back : (x y z : X) → f a ≡ some x → f b ≡ some y → f c ≡ some z → by_phase f g (phase_map a b c) ≡ some (g x y z)
    unfolding by_phase bind needed map_in each_phase
    phases-back x y z p q r =
        let v : (k : ℕ) → _ = λ (k : ℕ). values (phase_fields a b c) 0 k phases-ascend in
        rw (only-these, v 0, v 1, v 2, p, q, r)

-- READ AND WRITTEN AGAIN
-- no key is there but those below n
none_above : (n : ℕ) (ps : Pairs) (k : ℕ) → keys_below n ps ≡ true → n ≤ k → value_of ps k ≡ none
unfolding keys_below value_of
none_above n Pairs.empty k h l = refl
none_above n (Pairs.pair j i ps) k h l =
    let q = ltb-true j n (and_left (ltb j n) _ h) in
    rw (ne_eqb j k (λ e. omega arith)) (none_above n ps k (and_right (ltb j n) _ h) l)

-- a value of well-formed pairs, where there is one, is well formed
there_ok : (ps : Pairs) (lo d k : ℕ) → OkPairs ps lo d → OkField (value_of ps k) d
there_ok ps lo d k h = go (value_of ps k) refl
  where
    go : (o : Option Item) → value_of ps k ≡ o → OkField o d
    go (some i) e = value_ok ps lo d k i h e
    go none e = tt

pub held-ok : (ps : Pairs) (lo d k : ℕ) (o : Option Item) → OkPairs ps lo d → value_of ps k ≡ o → OkField o d
held-ok ps lo d k o h e = subst (λ (v : Option Item). OkField v d) e (there_ok ps lo d k h)

-- a key that is no phase's is 3 or above
no_phase : (a b c : Option Item) (k : ℕ) → has_key (phase_fields a b c) k ≡ false → 3 ≤ k
no_phase a b c k h =
    let r = or_right (eqb 0 k) _ h in
    let s = or_right (eqb 1 k) _ r in
    far k (eqb-false 0 k (or_left (eqb 0 k) _ h)) (eqb-false 1 k (or_left (eqb 1 k) _ r)) (eqb-false 2 k (or_left (eqb 2 k) _ s))
  where
    far : (k : ℕ) → (0 ≡ k → ⊥) → (1 ≡ k → ⊥) → (2 ≡ k → ⊥) → 3 ≤ k
    far k x y z = omega (arith, x, y, z)

-- the pairs of a checked map of nothing but phases are those of its three
same-phases : (ps : Pairs) (d : ℕ) → OkPairs ps 0 d → only_phases ps ≡ true → present (phase_fields (value_of ps 0) (value_of ps 1) (value_of ps 2)) ≡ ps
same-phases ps d ok h =
    let t : (k : ℕ) → _ = λ (k : ℕ). there_ok ps 0 d k ok in
    let fs : Fields = phase_fields (value_of ps 0) (value_of ps 1) (value_of ps 2) in
    same_map ps fs 0 d ok (omega arith, (omega arith, (omega arith, tt))) (omega arith, t 0, (omega arith, t 1, (omega arith, t 2, tt))) (refl, (refl, (refl, tt)))
    (λ j n. none_above 3 ps j (sym (only-phases ps d ok) ∙ h) (no_phase (value_of ps 0) (value_of ps 1) (value_of ps 2) j n))

-- what was read of a map of phases: its pairs and each of its values
pub record AgainPhases {X Y : Type 0} (f : Option Item → Option X) (g : X → X → X → Y) (o : Option Item) (y : Y) : Type 0 where
  pub pairs : Pairs
  pub map : o ≡ some (Item.map pairs)
  pub only : only_phases pairs ≡ true
  pub a : X
  pub b : X
  pub c : X
  pub first : f (value_of pairs 0) ≡ some a
  pub second : f (value_of pairs 1) ≡ some b
  pub third : f (value_of pairs 2) ≡ some c
  pub is : g a b c ≡ y

module _ {X Y : Type 0} (f : Option Item → Option X) (g : X → X → X → Y) (o : Option Item) (y : Y) where
  pub phases-again : by_phase f g o ≡ some y → AgainPhases f g o y
  unfolding by_phase each_phase
  phases-again e =
      let p = bind-parts (needed map_in o) _ y e in
      let t = only_part (only_phases p.0) _ p.2 in
      let a = bind-parts (f (value_of p.0 0)) _ y t.1 in
      let b = bind-parts (f (value_of p.0 1)) _ y a.2 in
      let c = bind-parts (f (value_of p.0 2)) _ y b.2 in
      record {
        pairs = p.0;
        map = map-again o p.0 p.1;
        only = t.0;
        a = a.0;
        b = b.0;
        c = c.0;
        first = a.1;
        second = b.1;
        third = c.1;
        is = same-inside c.2;
      }
    where
      only_part : (b : Bool) (x : Option Y) → cond b x none ≡ some y → (b ≡ true) × (x ≡ some y)
      only_part true x h = (refl, h)
      only_part false x h = absurd (no_value h)

  -- the map that is written for what was read of it is the map
  pub phases-same : (q : AgainPhases f g o y) (a b c : Option Item) → value_of q.pairs 0 ≡ a → value_of q.pairs 1 ≡ b → value_of q.pairs 2 ≡ c
      → (d : ℕ) → OkField o d → o ≡ phase_map a b c
  unfolding Ok
  phases-same q a b c x y z d ok = q.map ∙ ap (λ (m : Pairs). some (Item.map m)) (sym (go d (subst (λ (v : Option Item). OkField v d) q.map ok)))
    where
      go : (d : ℕ) → Ok (Item.map q.pairs) d → present (phase_fields a b c) ≡ q.pairs
      go zero h = absurd h
      go (suc e) h = rw (← x, ← y, ← z) (same-phases q.pairs e (map-ok q.pairs e h) q.only)

-- OF NUMBERS, WITH OR WITHOUT NULL
abbrev pub AllowedPhases : Bool → Phases → Type 0
AllowedPhases null p = Allowed null p.a × Allowed null p.b × Allowed null p.c

module _ (p : Phases) where
  pub short_numbers : (k : ℕ) → length (field_bytes k (phases_item p)) ≤ 72
  unfolding phases_item
  short_numbers k = phases-short _ _ _ k (short_value 0 p.a, (short_value 1 p.b, (short_value 2 p.c, tt)))

  module _ (h : Phases64 p) where
    pub ok_numbers : (d : ℕ) → OkField (phases_item p) (suc d)
    unfolding phases_item
    ok_numbers d = phases-ok (value_item p.a) (value_item p.b) (value_item p.c) d (ok_value p.a d h.0) (ok_value p.b d h.1) (ok_value p.c d h.2)

    pub numbers_back : (null : Bool) → AllowedPhases null p → phases_in null (phases_item p) ≡ some p
    unfolding phases_in phases_item
    numbers_back null n =
        phases-back (value_item p.a) (value_item p.b) (value_item p.c) (value_in null) phases_from p.a p.b p.c
        (value_back null p.a n.0 h.0) (value_back null p.b n.1 h.1) (value_back null p.c n.2 h.2)

pub record AgainNumbers (null : Bool) (o : Option Item) (p : Phases) : Type 0 where
  pub bits : Phases64 p
  pub allowed : AllowedPhases null p
  pub same : (d : ℕ) → OkField o d → o ≡ phases_item p

pub numbers_again : (null : Bool) (o : Option Item) (p : Phases) → phases_in null o ≡ some p → AgainNumbers null o p
unfolding phases_in phases_item
numbers_again null o p e =
    let q = phases-again (value_in null) phases_from o p e in
    let x = value_again null (value_of q.pairs 0) q.a q.first in
    let y = value_again null (value_of q.pairs 1) q.b q.second in
    let z = value_again null (value_of q.pairs 2) q.c q.third in
    subst (λ (r : Phases). AgainNumbers null o r) q.is
    (record {
      bits = (x.1, y.1, z.1);
      allowed = (x.2, y.2, z.2);
      same = λ d ok. phases-same (value_in null) phases_from o p q _ _ _ x.0 y.0 z.0 d ok;
    })

-- OF AMOUNTS
abbrev pub AmountsTo : ℕ → CurrentResult → Type 0
AmountsTo most l = (amount_up_to most l.a ≡ true) × (amount_up_to most l.b ≡ true) × (amount_up_to most l.c ≡ true)

module _ (l : CurrentResult) where
  pub short_amounts : (k : ℕ) → length (field_bytes k (currents_item l)) ≤ 72
  unfolding currents_item
  short_amounts k = phases-short _ _ _ k (short_amount 0 l.a, (short_amount 1 l.b, (short_amount 2 l.c, tt)))

  module _ (most : ℕ) (h : AmountsTo most l) where
    pub ok_amounts : (d : ℕ) → most < 2 ^ 64 → OkField (currents_item l) (suc d)
    unfolding currents_item
    ok_amounts d m =
        phases-ok (amount_item l.a) (amount_item l.b) (amount_item l.c) d
        (ok_amount most l.a d m h.0) (ok_amount most l.b d m h.1) (ok_amount most l.c d m h.2)

    pub amounts_back : currents_in most (currents_item l) ≡ some l
    unfolding currents_in currents_item
    amounts_back =
        phases-back (amount_item l.a) (amount_item l.b) (amount_item l.c) (amount_in most) currents_from l.a l.b l.c
        (amount-back most l.a h.0) (amount-back most l.b h.1) (amount-back most l.c h.2)

pub record AgainAmounts (most : ℕ) (o : Option Item) (l : CurrentResult) : Type 0 where
  pub range : AmountsTo most l
  pub same : (d : ℕ) → OkField o d → o ≡ currents_item l

pub amounts_again : (most : ℕ) (o : Option Item) (l : CurrentResult) → currents_in most o ≡ some l → AgainAmounts most o l
unfolding currents_in currents_item
amounts_again most o l e =
    let q = phases-again (amount_in most) currents_from o l e in
    let x = amount-again most (value_of q.pairs 0) q.a q.first in
    let y = amount-again most (value_of q.pairs 1) q.b q.second in
    let z = amount-again most (value_of q.pairs 2) q.c q.third in
    subst (λ (r : CurrentResult). AgainAmounts most o r) q.is
    (record { range = (x.1, y.1, z.1); same = λ d ok. phases-same (amount_in most) currents_from o l q _ _ _ x.0 y.0 z.0 d ok })
