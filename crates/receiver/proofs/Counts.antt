-- The counts of a record: which are open, and where the frame in hand ends. Assumes nothing.
use Prim.Native.Nat.{ℕ, ◌+◌, ◌-◌, ◌^◌, ◌≤◌, ◌<◌}
use mathlib.Core.Path.{◌≡◌, refl, sym, ap, ◌∙◌}
use mathlib.Core.Bool.{Bool, true, false}
use mathlib.Core.Logic.{⊎_elim}
use mathlib.Core.List.{List, ◌++◌}
use native.Mathlib.Nat.{pow-le-pow_right}
use native.Mathlib.Omega.{arith}
use lib.ListN.{length, get_or, take, length-append, get_or-append}
use lib.Seq.{length-take-le, get_or-take, get_or-append-add}
use lib.Dec.{leb, ltb, eqb}
use borrow.Author.Tests.{ltb-true, ltb-false, leb-true, eqb-true, eqb-false, lt-ltb, le-ltb, le-leb, lt-leb, eq-eqb, ne_eqb}
use Rattle.wire_bytes.specs.Bytes.{number_at, Bytes}
use Rattle.wire_bytes.proofs.Order.{below}
use Rattle.wire_bytes.proofs.NumberLaws.{number_small}
use Rattle.wire_prefix.specs.Prefix.{end_of}
use Rattle.wire_prefix.proofs.Ends.{no_both}
use Rattle.receiver.specs.declared.record.Record.{Record}
use Rattle.receiver.specs.Receive.{fresh, is_open, end_for, record_at, length_at}

-- the tests of `is_open`, one by one
module _ (r : Record) where
  pub is_closed : (r.closed ≡ 0 → ⊥) → false ≡ is_open r
  unfolding is_open
  is_closed n = rw (ne_eqb r.closed 0 n)

  module _ (o : r.closed ≡ 0) where
    pub in_prefix : r.need ≡ 0 → ltb r.have 4 ≡ is_open r
    unfolding is_open
    in_prefix z = rw (eq-eqb r.closed 0 o, eq-eqb r.need 0 z)

    module _ (z : r.need ≡ 0 → ⊥) where
      pub too_few : r.have < 4 → false ≡ is_open r
      unfolding is_open
      too_few l = rw (eq-eqb r.closed 0 o, ne_eqb r.need 0 z, lt-leb 4 r.have l)

      pub too_many : 4 ≤ r.have → r.need ≤ r.have → false ≡ is_open r
      unfolding is_open
      too_many h l = rw (eq-eqb r.closed 0 o, ne_eqb r.need 0 z, le-leb 4 r.have h, le-ltb r.have r.need l)

      pub in_payload : 4 ≤ r.have → r.have < r.need → leb r.need 2052 ≡ is_open r
      unfolding is_open
      in_payload h l = rw (eq-eqb r.closed 0 o, ne_eqb r.need 0 z, le-leb 4 r.have h, lt-ltb r.have r.need l)

-- what open counts are: part of a prefix, or a prefix and part of its payload
pub data Counts (r : Record) : Type 0 where
  prefix : r.closed ≡ 0 → r.need ≡ 0 → r.have < 4 → Counts r
  payload : r.closed ≡ 0 → 4 ≤ r.have → r.have < r.need → r.need ≤ 2052 → Counts r

module _ (r : Record) (o : is_open r ≡ true) where
  pub counts : Counts r
  counts = go (eqb r.closed 0) refl (eqb r.need 0) refl (ltb r.have 4) refl (ltb r.have r.need) refl
    where
      go : (a : Bool) → eqb r.closed 0 ≡ a → (b : Bool) → eqb r.need 0 ≡ b → (c : Bool) → ltb r.have 4 ≡ c
          → (d : Bool) → ltb r.have r.need ≡ d → Counts r
      go false ea b eb c ec d ed = no_both o (sym (is_closed r (eqb-false r.closed 0 ea)))
      go true ea true eb c ec d ed =
          let k = eqb-true r.closed 0 ea in
          let z = eqb-true r.need 0 eb in
          prefix k z (ltb-true r.have 4 (in_prefix r k z ∙ o))
      go true ea false eb true ec d ed =
          no_both o (sym (too_few r (eqb-true r.closed 0 ea) (eqb-false r.need 0 eb) (ltb-true r.have 4 ec)))
      go true ea false eb false ec false ed =
          let h = ltb-false r.have 4 ec in
          let l = ltb-false r.have r.need ed in
          no_both o (sym (too_many r (eqb-true r.closed 0 ea) (eqb-false r.need 0 eb) h l))
      go true ea false eb false ec true ed =
          let k = eqb-true r.closed 0 ea in
          let h = ltb-false r.have 4 ec in
          let l = ltb-true r.have r.need ed in
          payload k h l (leb-true r.need 2052 (in_payload r k (eqb-false r.need 0 eb) h l ∙ o))

  pub few : r.need ≡ 0 → r.have < 4
  few z = go counts
    where
      go : Counts r → r.have < 4
      go (prefix a b c) = c
      go (payload a b c d) = omega arith

  -- what stands in the room fits in it
  pub fits : r.have < 2052
  fits = go counts
    where
      go : Counts r → r.have < 2052
      go (prefix a b c) = omega arith
      go (payload a b c d) = omega arith

-- the bytes in the room, then the scrap's
module _ (have : ℕ) (room scrap : List ℕ) (l : have ≤ length room) where
  held_length : length (take have room) ≡ have
  held_length = length-take-le have room l

  pub length_both : length (take have room ++ scrap) ≡ have + length scrap
  length_both = omega (arith, length-append (take have room) scrap, held_length)

  bytes_both : Bytes room → Bytes scrap → Bytes (take have room ++ scrap)
  unfolding Bytes
  bytes_both a b k = ⊎_elim
      (λ lt. rw (get_or-append (take have room) scrap 0 k (omega (arith, held_length)), get_or-take have room k 0 lt) (a k))
      (λ le.
      let e : length (take have room) + (k - have) ≡ k = omega (arith, held_length) in
      rw (ap (λ (i : ℕ). get_or (take have room ++ scrap) i 0) (sym e) ∙ get_or-append-add (take have room) scrap (k - have) 0) (b (k - have)))
      (below k have)

  pub byte_held : (i : ℕ) → i < have → get_or room i 0 ≡ get_or (take have room ++ scrap) i 0
  byte_held i b = sym (get_or-append (take have room) scrap 0 i (omega (arith, held_length)) ∙ get_or-take have room i 0 b)

  pub byte_new : (i : ℕ) → have ≤ i → get_or scrap (i - have) 0 ≡ get_or (take have room ++ scrap) i 0
  byte_new i b =
      let e : length (take have room) + (i - have) ≡ i = omega (arith, held_length) in
      sym (get_or-append-add (take have room) scrap (i - have) 0) ∙ ap (λ (k : ℕ). get_or (take have room ++ scrap) k 0) e

  -- the number of the first i bytes
  pub payload_fits : Bytes room → Bytes scrap → (i : ℕ) → i ≤ 4 → number_at (take have room ++ scrap) 0 i < 2 ^ 32
  payload_fits a b i h = omega (arith, number_small (take have room ++ scrap) (bytes_both a b) i 0, pow-le-pow_right {n = 256} (omega arith) h)

module _ (r : Record) (room scrap : List ℕ) where
  pub end-new : r.need ≡ 0 → end_of (take r.have room ++ scrap) ≡ end_for r room scrap
  unfolding end_for
  end-new z = rw (eq-eqb r.need 0 z)

  pub end_known : (r.need ≡ 0 → ⊥) → r.need ≡ end_for r room scrap
  unfolding end_for
  end_known z = rw (ne_eqb r.need 0 z)

-- the record and the length at h bytes of a frame that ends at e
module _ (h e : ℕ) where
  pub at_end : h ≡ e → (fresh ≡ record_at h e) × (e ≡ length_at h e)
  unfolding record_at length_at
  at_end z = rw (eq-eqb h e z) (refl, refl)

  module _ (z : h ≡ e → ⊥) where
    pub no_end : 0 ≡ length_at h e
    unfolding length_at
    no_end = rw (ne_eqb h e z)

    pub at_prefix : h < 4 → record { have = h; need = 0; closed = 0 } ≡ record_at h e
    unfolding record_at
    at_prefix l = rw (ne_eqb h e z, lt-ltb h 4 l)

    pub at_payload : 4 ≤ h → record { have = h; need = e; closed = 0 } ≡ record_at h e
    unfolding record_at
    at_payload l = rw (ne_eqb h e z, le-ltb h 4 l)

-- a record with bytes in hand is not closed
pub record_open : (h e : ℕ) → (record_at h e).closed ≡ 0
record_open h e = go (eqb h e) refl (ltb h 4) refl
  where
    go : (a : Bool) → eqb h e ≡ a → (b : Bool) → ltb h 4 ≡ b → (record_at h e).closed ≡ 0
    go true x b y = rw (← (at_end h e (eqb-true h e x)).0)
    go false x true y = rw (← at_prefix h e (eqb-false h e x) (ltb-true h 4 y))
    go false x false y = rw (← at_payload h e (eqb-false h e x) (ltb-false h 4 y))

-- a record by its parts
pub record_is : (r : Record) (h n c : ℕ) → h ≡ r.have → n ≡ r.need → c ≡ r.closed → record { have = h; need = n; closed = c } ≡ r
record_is r h n c eh en ec = rw (eh, en, ec)
