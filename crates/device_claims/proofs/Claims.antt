-- One zone more: the numbers of a pass stand for the better claims.
use Prim.Native.Nat.{ℕ, zero, suc, ◌+◌, ◌<◌, ◌≤◌}
use mathlib.Core.Bool.{Bool, true, false, cond, not, ◌&&◌, ◌||◌}
use mathlib.Core.Path.{◌≡◌, refl, sym, ap, ◌∙◌}
use mathlib.Core.List.{List, [], ◌∷◌, ◌++◌, foldl, foldl-append, append_assoc, append-nil}
use native.Mathlib.Numerals.{add-one}
use native.Mathlib.Decide.{ℕ_discrete}
use native.Mathlib.Omega.{arith}
use borrow.Author.Tests.{lt-ltb, le-ltb, le-leb, lt-leb, ltb-true, ltb-false, eqb-true, eqb-false}
use lib.Dec.{ltb, leb, eqb}
use lib.ListN.{length, get_or, set, take, replicate, length-set}
use lib.Seq.{take-suc, take_all, get_or-set_same, get_or-set_other}
use Rattle.device_store.specs.Quantities.{lowest_values, leading_setpoints, is_setpoint, low_at, lead_at}
use Rattle.device_store.specs.Sizes.{most}
use Rattle.device_store.specs.Zones.{up_to, precedence_of, id_of, rank_of, free_zone, is_joined, held_of}
use Rattle.device_claims.specs.Claim.{Claim, no_claim, claim_of, goes_before, better, winner}
use Rattle.device_claims.specs.Ends.{zone_dues, held_dues}
use Rattle.device_store.specs.Smaller.{nearer}
use Rattle.device_store.specs.Smaller.{lesser}
use Rattle.device_claims.specs.Pass.{takes, claim_number, place_of, turns, low_step, lead_step, lowest_values_with, leading_setpoints_with, Bounded, Stands, LowestValuesMet, LeadingSetpointsMet, Adds}
use Rattle.device_store.specs.declared.Held.{Held}
use Rattle.device_store.specs.declared.Zone.{Zone}
use Rattle.device_claims.specs.declared.passes.LowestValues.{LowestValues}
use Rattle.device_claims.specs.declared.passes.LeadingSetpoints.{LeadingSetpoints}
use Rattle.device_claims.proofs.Places.{low_no_setpoint, lead_setpoint}

-- by rank and then by id is the order of precedences
precedence_order : (k i l j : ℕ) → i < 256 → j < 256 → (ltb k l || (eqb k l && ltb i j)) ≡ ltb (precedence_of i k) (precedence_of j l)
precedence_order k i l j a b = go (ltb k l) (eqb k l) (ltb i j) refl refl refl
  where
    go : (u v w : Bool) → ltb k l ≡ u → eqb k l ≡ v → ltb i j ≡ w → (u || (v && w)) ≡ ltb (precedence_of i k) (precedence_of j l)
    go true v w p q r = let h : k < l = ltb-true k l p in sym (lt-ltb (precedence_of i k) (precedence_of j l) (omega arith))
    go false true true p q r =
        let h : k ≡ l = eqb-true k l q in
        let m : i < j = ltb-true i j r in
        sym (lt-ltb (precedence_of i k) (precedence_of j l) (omega arith))
    go false true false p q r =
        let h : k ≡ l = eqb-true k l q in
        let m : j ≤ i = ltb-false i j r in
        sym (le-ltb (precedence_of i k) (precedence_of j l) (omega arith))
    go false false w p q r =
        let h : l ≤ k = ltb-false k l p in
        let m : k ≡ l → ⊥ = eqb-false k l q in
        sym (le-ltb (precedence_of i k) (precedence_of j l) (omega arith))

precedence-of : (x : Zone) → precedence_of (id_of x) (rank_of x) ≡ x.precedence
unfolding id_of rank_of
precedence-of x = omega arith

small_id : (x : Zone) → id_of x < 256
unfolding id_of
small_id x = omega arith

-- a free slot claims nothing
pub free-keeps : (t q : ℕ) (a : Claim) (x : Zone) → is_joined x ≡ false → better q a (claim_of t q x) ≡ a
unfolding better claim_of
free-keeps t q a x e = rw e

module _ (t q : ℕ) (a : Claim) (x : Zone) (joined : is_joined x ≡ true) where
  -- what the zone claims, if it does
  abbrev claim : Claim
  claim = record { there = true; value = (held_of x q).value; rank = rank_of x; id = id_of x }

  -- the smaller of two limits
  pub limit-more : is_setpoint q ≡ false → (n : ℕ) → n ≡ claim_number a → (held_of x q).value ≤ most
      → cond (ltb t (held_of x q).until) (lesser (held_of x q).value n) n ≡ claim_number (better q a (claim_of t q x))
  unfolding better claim_of goes_before lesser claim_number
  limit-more l n e h = rw (joined, l) (go (ltb t (held_of x q).until))
    where
      v : ℕ
      v = (held_of x q).value

      more : (w y z : Bool) → a.there ≡ w → ltb a.value v ≡ y → ltb v n ≡ z → n ≡ cond w a.value most → cond z v n ≡ claim_number (cond (not (w && y)) claim a)
      more true true true p r s f = absurd (omega (arith, ltb-true a.value v r, ltb-true v n s))
      more true true false p r s f = e
      more true false true p r s f = refl
      more true false false p r s f = omega (arith, ltb-false a.value v r, ltb-false v n s)
      more false y true p r s f = refl
      more false y false p r s f = omega (arith, ltb-false v n s)

      go : (b : Bool) → cond b (cond (ltb v n) v n) n ≡ claim_number (cond ((cond b claim no_claim).there && not (a.there && ltb a.value (cond b claim no_claim).value)) (cond b claim no_claim) a)
      go true = more a.there (ltb a.value v) (ltb v n) refl refl refl e
      go false = e

  -- the setpoint of the smaller precedence
  pub lead_more : is_setpoint q ≡ true → (k n : ℕ) → Stands a k n → x.precedence ≤ most
      → Stands (better q a (claim_of t q x)) (cond (takes t (held_of x q).until x.precedence k) x.precedence k) (cond (takes t (held_of x q).until x.precedence k) (held_of x q).value n)
  unfolding better claim_of goes_before takes claim_number place_of
  lead_more l k n s h = rw (joined, l) (go (ltb t (held_of x q).until))
    where
      v : ℕ
      v = (held_of x q).value

      theirs : Stands claim x.precedence v
      theirs = record { place = sym (precedence-of x); number = refl; small = small_id x }

      more : (w : Bool) → a.there ≡ w → k ≡ cond w (precedence_of a.id a.rank) most → (y : Bool) → ltb (precedence_of a.id a.rank) x.precedence ≡ y
          → Stands (cond (not (w && y)) claim a) (cond (leb x.precedence k) x.precedence k) (cond (leb x.precedence k) v n)
      more true p f true r = let m : k < x.precedence = omega (arith, ltb-true (precedence_of a.id a.rank) x.precedence r) in rw (lt-leb x.precedence k m) s
      more true p f false r = let m : x.precedence ≤ k = omega (arith, ltb-false (precedence_of a.id a.rank) x.precedence r) in rw (le-leb x.precedence k m) theirs
      more false p f y r = let m : x.precedence ≤ k = omega arith in rw (le-leb x.precedence k m) theirs

      order : (ltb a.rank (rank_of x) || (eqb a.rank (rank_of x) && ltb a.id (id_of x))) ≡ ltb (precedence_of a.id a.rank) x.precedence
      order = precedence_order a.rank a.id (rank_of x) (id_of x) s.small (small_id x) ∙ ap (λ (m : ℕ). ltb (precedence_of a.id a.rank) m) (precedence-of x)

      told : Bool → Claim
      told b = cond b claim no_claim

      go : (b : Bool) → Stands (cond ((told b).there && not (a.there && (ltb a.rank (told b).rank || (eqb a.rank (told b).rank && ltb a.id (told b).id)))) (told b) a)
          (cond (b && leb x.precedence k) x.precedence k) (cond (b && leb x.precedence k) v n)
      go true = rw order (more a.there refl s.place (ltb (precedence_of a.id a.rank) x.precedence) refl)
      go false = s

-- A RUN OF STEPS: each changes one place at most
module _ (b : Bool) (l : List ℕ) (j v : ℕ) where
  kept-size : length (cond b (set l j v) l) ≡ length l
  kept-size = go b
    where
      go : (b : Bool) → length (cond b (set l j v) l) ≡ length l
      go true = length-set l j v
      go false = refl

  kept_here : j < length l → get_or (cond b (set l j v) l) j 0 ≡ cond b v (get_or l j 0)
  kept_here h = go b
    where
      go : (b : Bool) → get_or (cond b (set l j v) l) j 0 ≡ cond b v (get_or l j 0)
      go true = get_or-set_same l j v 0 h
      go false = refl

  kept-other : (k : ℕ) → (k ≡ j → ⊥) → get_or (cond b (set l j v) l) k 0 ≡ get_or l k 0
  kept-other k a = go b
    where
      go : (b : Bool) → get_or (cond b (set l j v) l) k 0 ≡ get_or l k 0
      go true = get_or-set_other l j k v 0 a
      go false = refl

-- turns of which each changes place k of an array at most: what stands below n is met, the rest is as it was
module _ {G : Type 0} (step : ℕ → G → G) (array : G → List ℕ) (taken : ℕ → G → Bool) (v : ℕ → G → ℕ)
    (is : (k : ℕ) (g : G) → array (step k g) ≡ cond (taken k g) (set (array g) k (v k g)) (array g)) (g : G) where
  turns-size : (n : ℕ) → length (array (turns step n g)) ≡ length (array g)
  unfolding turns
  turns-size zero = refl
  turns-size (suc n) =
      let m : G = turns step n g in
      ap length (is n m) ∙ kept-size (taken n m) (array m) n (v n m) ∙ turns-size n

  turns-above : (n k : ℕ) → n ≤ k → get_or (array (turns step n g)) k 0 ≡ get_or (array g) k 0
  unfolding turns
  turns-above zero k h = refl
  turns-above (suc n) k h =
      let m : G = turns step n g in
      ap (λ (l : List ℕ). get_or l k 0) (is n m) ∙ kept-other (taken n m) (array m) n (v n m) k (λ e. omega arith) ∙ turns-above n k (omega arith)

  turns-below : (n k : ℕ) → k < n → n ≤ length (array g)
      → get_or (array (turns step n g)) k 0 ≡ cond (taken k (turns step k g)) (v k (turns step k g)) (get_or (array g) k 0)
  unfolding turns
  turns-below zero k h s = absurd (omega arith)
  turns-below (suc n) k h s =
      let m : G = turns step n g in
      ap (λ (l : List ℕ). get_or l k 0) (is n m)
      ∙ elim (ℕ_discrete k n) [
        | yes e ↦ rw e (kept_here (taken n m) (array m) n (v n m) (omega (arith, turns-size n)) ∙ rw (turns-above n n (omega arith)))
        | no e ↦ kept-other (taken n m) (array m) n (v n m) k e ∙ turns-below n k (omega arith) (omega arith)
      ]

-- turns of which each meets one end
turns_next : {G : Type 0} (t : ℕ) (step : ℕ → G → G) (next : G → ℕ) (e : ℕ → ℕ) → ((k : ℕ) (g : G) → next (step k g) ≡ nearer t (next g) (e k))
    → (n : ℕ) (g : G) → next (turns step n g) ≡ foldl (nearer t) (next g) (up_to e n)
unfolding turns up_to
turns_next t step next e is zero g = refl
turns_next t step next e is (suc n) g =
    is n (turns step n g)
    ∙ ap (λ (m : ℕ). nearer t m (e n)) (turns_next t step next e is n g)
    ∙ sym (foldl-append (nearer t) (next g) (up_to e n) (e n ∷ []))

-- A FREE SLOT claims nothing, and nothing of it ends
free-ends : {G : Type 0} (next : G → ℕ) (t : ℕ) (x : Zone) (at : ℕ → ℕ) (n : ℕ) (g : G) → is_joined x ≡ false → next g ≡ foldl (nearer t) (next g) (zone_dues at n x)
unfolding zone_dues
free-ends next t x at n g e = rw e

module _ (t : ℕ) (x : Zone) (e : is_joined x ≡ false) where
  pub free-lowest_values : (g : LowestValues) → Adds LowestValuesMet t x g g × (g.next ≡ foldl (nearer t) g.next (zone_dues low_at lowest_values x))
  free-lowest_values g = (
    λ f m. record { size = m.size; low = λ k h. rw (free-keeps t (low_at k) (f (low_at k)) x e) (m.low k h) },
    free-ends (λ (g : LowestValues). g.next) t x low_at lowest_values g e,
  )

  pub free-leading_setpoints : (g : LeadingSetpoints) → Adds LeadingSetpointsMet t x g g × (g.next ≡ foldl (nearer t) g.next (zone_dues lead_at leading_setpoints x))
  free-leading_setpoints g = (
    λ f m. record { precedence_size = m.precedence_size; lead_size = m.lead_size; lead = λ k h. rw (free-keeps t (lead_at k) (f (lead_at k)) x e) (m.lead k h) },
    free-ends (λ (g : LeadingSetpoints). g.next) t x lead_at leading_setpoints g e,
  )

-- A JOINED ZONE: all its limits are met, all its setpoints
module _ (t : ℕ) (x : Zone) (e : is_joined x ≡ true) where
  abbrev low_turn : ℕ → LowestValues → LowestValues
  low_turn k = low_step t (held_of x (low_at k)) k

  low_is : (k : ℕ) (g : LowestValues) → (low_turn k g).low ≡ cond (ltb t (held_of x (low_at k)).until) (set g.low k (lesser (held_of x (low_at k)).value (get_or g.low k 0))) g.low
  unfolding low_step
  low_is k g = refl

  low-next : (k : ℕ) (g : LowestValues) → (low_turn k g).next ≡ nearer t g.next (held_of x (low_at k)).until
  unfolding low_step
  low-next k g = refl

  pub lowest_values-add : (g : LowestValues) → Bounded x lowest_values → Adds LowestValuesMet t x g (lowest_values_with t x lowest_values g)
  lowest_values-add g a f m =
      let array : LowestValues → List ℕ = λ (g : LowestValues). g.low in
      let taken : ℕ → LowestValues → Bool = λ (k : ℕ) (g : LowestValues). ltb t (held_of x (low_at k)).until in
      let v : ℕ → LowestValues → ℕ = λ (k : ℕ) (g : LowestValues). lesser (held_of x (low_at k)).value (get_or g.low k 0) in
      record {
        size = turns-size low_turn array taken v low_is g lowest_values ∙ m.size;
        low = λ k h.
            turns-below low_turn array taken v low_is g lowest_values k h (omega (arith, m.size))
            ∙ rw (turns-above low_turn array taken v low_is g k k (omega arith))
            (limit-more t (low_at k) (f (low_at k)) x e (low_no_setpoint k) (get_or g.low k 0) (m.low k h) (a k h));
      }

  pub lowest_values-end : (g : LowestValues) → (lowest_values_with t x lowest_values g).next ≡ foldl (nearer t) g.next (zone_dues low_at lowest_values x)
  unfolding zone_dues
  lowest_values-end g = rw e (turns_next t low_turn (λ (g : LowestValues). g.next) (λ k. (held_of x (low_at k)).until) low-next lowest_values g)

  abbrev lead_turn : ℕ → LeadingSetpoints → LeadingSetpoints
  lead_turn k = lead_step t (held_of x (lead_at k)) x.precedence k

  abbrev lead_taken : ℕ → LeadingSetpoints → Bool
  lead_taken k g = takes t (held_of x (lead_at k)).until x.precedence (get_or g.precedence k 0)

  precedence_is : (k : ℕ) (g : LeadingSetpoints) → (lead_turn k g).precedence ≡ cond (lead_taken k g) (set g.precedence k x.precedence) g.precedence
  unfolding lead_step
  precedence_is k g = refl

  lead_is : (k : ℕ) (g : LeadingSetpoints) → (lead_turn k g).lead ≡ cond (lead_taken k g) (set g.lead k (held_of x (lead_at k)).value) g.lead
  unfolding lead_step
  lead_is k g = refl

  lead-next : (k : ℕ) (g : LeadingSetpoints) → (lead_turn k g).next ≡ nearer t g.next (held_of x (lead_at k)).until
  unfolding lead_step
  lead-next k g = refl

  pub leading_setpoints-add : (g : LeadingSetpoints) → x.precedence ≤ most → Adds LeadingSetpointsMet t x g (leading_setpoints_with t x leading_setpoints g)
  leading_setpoints-add g s f m =
      let precedences : LeadingSetpoints → List ℕ = λ (g : LeadingSetpoints). g.precedence in
      let values : LeadingSetpoints → List ℕ = λ (g : LeadingSetpoints). g.lead in
      let precedence : ℕ → LeadingSetpoints → ℕ = λ (k : ℕ) (g : LeadingSetpoints). x.precedence in
      let value : ℕ → LeadingSetpoints → ℕ = λ (k : ℕ) (g : LeadingSetpoints). (held_of x (lead_at k)).value in
      record {
        precedence_size = turns-size lead_turn precedences lead_taken precedence precedence_is g leading_setpoints ∙ m.precedence_size;
        lead_size = turns-size lead_turn values lead_taken value lead_is g leading_setpoints ∙ m.lead_size;
        lead = λ k h.
            rw (
              turns-below lead_turn precedences lead_taken precedence precedence_is g leading_setpoints k h (omega (arith, m.precedence_size)),
              turns-below lead_turn values lead_taken value lead_is g leading_setpoints k h (omega (arith, m.lead_size)),
              turns-above lead_turn precedences lead_taken precedence precedence_is g k k (omega arith),
            )
            (lead_more t (lead_at k) (f (lead_at k)) x e (lead_setpoint k h) (get_or g.precedence k 0) (get_or g.lead k 0) (m.lead k h) s);
      }

  pub leading_setpoints-end : (g : LeadingSetpoints) → (leading_setpoints_with t x leading_setpoints g).next ≡ foldl (nearer t) g.next (zone_dues lead_at leading_setpoints x)
  unfolding zone_dues
  leading_setpoints-end g = rw e (turns_next t lead_turn (λ (g : LeadingSetpoints). g.next) (λ k. (held_of x (lead_at k)).until) lead-next leading_setpoints g)

-- the loops over the limits and the setpoints of one zone
pub lowest_values-turn : (t : ℕ) (x : Zone) (k : ℕ) (g₀ g r : LowestValues) (h : Held) → g ≡ lowest_values_with t x k g₀ → h ≡ held_of x (low_at k) → r ≡ low_step t h k g → r
    ≡ lowest_values_with t x (k + 1) g₀
unfolding turns
lowest_values-turn t x k g₀ g r h e p q = q ∙ rw (p, e, add-one k)

pub leading_setpoints-turn : (t : ℕ) (x : Zone) (k : ℕ) (g₀ g r : LeadingSetpoints) (h : Held) (s : ℕ) → g ≡ leading_setpoints_with t x k g₀ → h ≡ held_of x (lead_at k) → s ≡ x.precedence
    → r ≡ lead_step t h s k g → r ≡ leading_setpoints_with t x (k + 1) g₀
unfolding turns
leading_setpoints-turn t x k g₀ g r h s e p i q = q ∙ rw (p, i, e, add-one k)

-- what holds of all below k and of k holds of all below k + 1
pub below_turn : (P : ℕ → Type 0) (k : ℕ) → ((j : ℕ) → j < k → P j) → P k → (j : ℕ) → j < k + 1 → P j
below_turn P k f p j h =
    elim (ℕ_discrete j k) [
      | yes e ↦ rw e p
      | no e ↦ f j (omega arith)
    ]

-- nothing met: all places hold the largest word
all_most : (n k : ℕ) → k < n → get_or (replicate n most) k 0 ≡ most
all_most zero k h = absurd (omega arith)
all_most (suc n) zero h = refl
all_most (suc n) (suc k) h = all_most n k (omega arith)

pub none-lowest_values : (n : ℕ) → LowestValuesMet (record { low = replicate lowest_values most; next = n }) (λ q. no_claim)
unfolding claim_number
none-lowest_values n = record { size = refl; low = λ k h. all_most lowest_values k h }

pub none-leading_setpoints : (n : ℕ) → LeadingSetpointsMet (record { precedence = replicate leading_setpoints most; lead = replicate leading_setpoints most; next = n }) (λ q. no_claim)
unfolding claim_number place_of
none-leading_setpoints n =
    record {
      precedence_size = refl;
      lead_size = refl;
      lead = λ k h. record { place = all_most leading_setpoints k h; number = all_most leading_setpoints k h; small = omega arith };
    }

-- ALL ZONES, by the kind of quantity: what its numbers stand for, and when the k-th of it ends
abbrev pub Along : {G : Type 0} → (G → (ℕ → Claim) → Type 0) → Type 0
Along {G} P = (g : G) (f h : ℕ → Claim) → ((q : ℕ) → h q ≡ f q) → P g f → P g h

abbrev pub low_next : LowestValues → ℕ
low_next g = g.next

abbrev pub lead_next : LeadingSetpoints → ℕ
lead_next g = g.next

pub lowest_values-along : Along LowestValuesMet
lowest_values-along g f h e m = record { size = m.size; low = λ k l. rw (e (low_at k)) (m.low k l) }

pub leading_setpoints-along : Along LeadingSetpointsMet
leading_setpoints-along g f h e m = record { precedence_size = m.precedence_size; lead_size = m.lead_size; lead = λ k l. rw (e (lead_at k)) (m.lead k l) }

module _ (at : ℕ → ℕ) (n : ℕ) where
  dues-more : (zs : List Zone) (x : Zone) → held_dues at n (zs ++ (x ∷ [])) ≡ held_dues at n zs ++ zone_dues at n x
  unfolding held_dues
  dues-more [] x = append-nil (zone_dues at n x)
  dues-more (z ∷ zs) x = ap (λ (l : List ℕ). zone_dues at n z ++ l) (dues-more zs x) ∙ sym (append_assoc (zone_dues at n z) (held_dues at n zs) (zone_dues at n x))

module _ {G : Type 0} (P : G → (ℕ → Claim) → Type 0) (next : G → ℕ) (at : ℕ → ℕ) (n start t : ℕ) (zs : List Zone) where
  -- the claims that win among the first i zones, and the next end of theirs, or `start`
  abbrev pub Passed : ℕ → G → Type 0
  Passed i g = P g (λ q. winner t q (take i zs)) × (next g ≡ foldl (nearer t) start (held_dues at n (take i zs)))

  pub pass-none : (g : G) → P g (λ q. no_claim) → next g ≡ start → Passed 0 g
  unfolding winner held_dues
  pass-none g m e = (m, e)

  pub pass-turn : (i : ℕ) → Along P → (x : Zone) (g r : G) → i < length zs → x ≡ get_or zs i free_zone → Passed i g → Adds P t x g r
      → next r ≡ foldl (nearer t) (next g) (zone_dues at n x) → Passed (i + 1) r
  unfolding winner
  pass-turn i along x g r h e p a d =
      let more : take (i + 1) zs ≡ take i zs ++ (x ∷ []) = rw (add-one i, e) (take-suc zs i free_zone h) in (
        along r (λ q. better q (winner t q (take i zs)) (claim_of t q x)) (λ q. winner t q (take (i + 1) zs)) (λ q. rw more (foldl-append _ _ (take i zs) (x ∷ [])))
            (a (λ q. winner t q (take i zs)) p.0),
        d ∙ rw (p.1, more, dues-more at n (take i zs) x) (sym (foldl-append (nearer t) start (held_dues at n (take i zs)) (zone_dues at n x))),
      )

  pub pass-end : (i : ℕ) (g : G) → length zs ≤ i → Passed i g → P g (λ q. winner t q zs) × (next g ≡ foldl (nearer t) start (held_dues at n zs))
  pass-end i g h p = rw (take_all i zs h) at p
