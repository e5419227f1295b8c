-- What is left of a map without its unknown keys and its written zero duration has none of them. Assumes nothing.
use Prim.Native.Nat.{ℕ}
use mathlib.Core.Path.{◌≡◌, refl, sym, ap, subst, ◌∙◌}
use mathlib.Core.Bool.{Bool, true, false, cond, not, ◌&&◌}
use mathlib.Core.Option
use mathlib.Core.Option.{Option, some, none}
use native.Mathlib.Omega.{arith}
use lib.Dec.{leb, eqb}
use borrow.Author.Tests.{eqb-true, leb-false, ne_eqb}
use Rattle.wire_cbor.specs.Item.{Item, Pairs, is_some}
use Rattle.wire_cbor.specs.Find.{value_of}
use Rattle.wire_fields.specs.Fields.{number_up_to, needed}
use Rattle.wire_fields.proofs.Joined.{no_both}
use Rattle.wire_laws.specs.RoundTrips.{KeysTo, parameter_keys, result_keys, omits_zero, PlainRequest}
use Rattle.wire_laws.specs.PassedOver.{kept, in_map, under, known, or_zero, command_of, request_known, response_known, zero_omitted, duration_omitted, RequestLeft, ResponseLeft}
use Rattle.wire_laws.proofs.FieldsAgain.{no_value}
use Rattle.wire_laws.proofs.PassedOver.{kept-value, known-exact, under-here, under-other}

-- KEYS
pub known-keys : (n : ℕ) (ps : Pairs) → KeysTo n (known n ps)
known-keys n ps k e = known-exact n ps k ∙ rw e refl

-- a map that stands under a key that is known adds none
under-keys : (n key : ℕ) (f : Pairs → Pairs) (ps : Pairs) → (leb 1 key && leb key n) ≡ true → KeysTo n ps → KeysTo n (under key f ps)
under-keys n key f ps t h k e = under-other key f ps k (go (eqb key k) refl) ∙ h k e
  where
    go : (b : Bool) → eqb key k ≡ b → b ≡ false
    go true x = absurd (no_both (sym t ∙ ap (λ (j : ℕ). leb 1 j && leb j n) (eqb-true key k x) ∙ e))
    go false x = refl

-- the map that f left
left_there : (f : Pairs → Pairs) (o : Option Item) (m : Pairs) → Option.map (in_map f) o ≡ some (Item.map m) → (q : Pairs) × (o ≡ some (Item.map q)) × (f q ≡ m)
unfolding in_map
left_there f none m e = absurd (no_value e)
left_there f (some (Item.uint v)) m e = absurd (let z : ◌≡◌ {A = ℕ} 0 1 = cc in omega arith)
left_there f (some (Item.nint v)) m e = absurd (let z : ◌≡◌ {A = ℕ} 0 1 = cc in omega arith)
left_there f (some (Item.bytes b)) m e = absurd (let z : ◌≡◌ {A = ℕ} 0 1 = cc in omega arith)
left_there f (some (Item.text b)) m e = absurd (let z : ◌≡◌ {A = ℕ} 0 1 = cc in omega arith)
left_there f (some (Item.array is)) m e = absurd (let z : ◌≡◌ {A = ℕ} 0 1 = cc in omega arith)
left_there f (some (Item.map ps)) m e = (ps, refl, cc)
left_there f (some (Item.simple v)) m e = absurd (let z : ◌≡◌ {A = ℕ} 0 1 = cc in omega arith)

-- THE ZERO
zero-told : (o : Option Item) → o ≡ some (Item.uint 0) → is_some (needed (number_up_to 0) o) ≡ true
unfolding needed number_up_to
zero-told o e = rw e refl

module _ (ps : Pairs) where
  zero-keys : (n : ℕ) → KeysTo n ps → KeysTo n (zero_omitted ps)
  unfolding zero_omitted
  zero-keys n h k e = go (is_some (needed (number_up_to 0) (value_of ps 3)))
    where
      none_left : (b : Bool) → ◌≡◌ {A = Option Item} (cond b none none) none
      none_left true = refl
      none_left false = refl

      go : (b : Bool) → value_of (cond b (kept (λ j. not (eqb j 3)) ps) ps) k ≡ none
      go true = kept-value (λ j. not (eqb j 3)) ps k ∙ rw (h k e) (none_left (not (eqb k 3)))
      go false = h k e

  no_zero : value_of (zero_omitted ps) 3 ≡ some (Item.uint 0) → ⊥
  unfolding zero_omitted
  no_zero e = go (is_some (needed (number_up_to 0) (value_of ps 3))) refl e
    where
      go : (b : Bool) → is_some (needed (number_up_to 0) (value_of ps 3)) ≡ b → value_of (cond b (kept (λ j. not (eqb j 3)) ps) ps) 3 ≡ some (Item.uint 0) → ⊥
      go true x y = no_value (sym (kept-value (λ j. not (eqb j 3)) ps 3) ∙ y)
      go false x y = no_both (sym (zero-told (value_of ps 3) y) ∙ x)

-- REQUESTS
-- a command past 16 bits, which no reader takes, has the keys of any that is not served
module _ (c : ℕ) where
  large : leb c 65535 ≡ false → (eqb c 1 ≡ false) × (eqb c 3 ≡ false) × (eqb c 5 ≡ false)
  large e = let h = leb-false c 65535 e in (ne_eqb c 1 (λ x. omega arith), ne_eqb c 3 (λ x. omega arith), ne_eqb c 5 (λ x. omega arith))

  named-alike : (b : Bool) → leb c 65535 ≡ b → (parameter_keys (cond b c 0) ≡ parameter_keys c) × (omits_zero (cond b c 0) ≡ omits_zero c)
  named-alike true e = (refl, refl)
  named-alike false e = let l = large e in (rw (l.0, l.1, l.2) refl, rw (l.0, l.2) refl)

  named : (o : Option Item) → o ≡ some (Item.uint c) → or_zero (needed (number_up_to 65535) o) ≡ cond (leb c 65535) c 0
  unfolding needed number_up_to
  named o e = rw e (go (leb c 65535))
    where
      go : (b : Bool) → or_zero (cond b (some c) none) ≡ cond b c 0
      go true = refl
      go false = refl

  command_named : (ps : Pairs) → value_of ps 4 ≡ some (Item.uint c) → (parameter_keys (command_of ps) ≡ parameter_keys c) × (omits_zero (command_of ps) ≡ omits_zero c)
  unfolding command_of
  command_named ps e = rw (named (value_of ps 4) e) (named-alike (leb c 65535) refl)

module _ (ps : Pairs) where
  -- what is known of a request: keys 1 to 5, the command as it was, and the parameters
  known-envelope : KeysTo 5 (request_known ps)
  unfolding request_known
  known-envelope = known-keys 5 (under 5 (known (parameter_keys (command_of ps))) ps)

  known-fourth : value_of (request_known ps) 4 ≡ value_of ps 4
  unfolding request_known
  known-fourth = let f = known (parameter_keys (command_of ps)) in known-exact 5 (under 5 f ps) 4 ∙ under-other 5 f ps 4 refl

  known-fifth : value_of (request_known ps) 5 ≡ Option.map (in_map (known (parameter_keys (command_of ps)))) (value_of ps 5)
  unfolding request_known
  known-fifth = let f = known (parameter_keys (command_of ps)) in known-exact 5 (under 5 f ps) 5 ∙ under-here 5 f ps

  known-parameters : (c : ℕ) (m : Pairs) → value_of (request_known ps) 4 ≡ some (Item.uint c) → value_of (request_known ps) 5 ≡ some (Item.map m) → KeysTo (parameter_keys c) m
  known-parameters c m e g =
      let x = left_there (known (parameter_keys (command_of ps))) (value_of ps 5) m (sym known-fifth ∙ g) in
      subst (λ (n : ℕ). KeysTo n m) (command_named c ps (sym known-fourth ∙ e)).0
      (subst (λ (q : Pairs). KeysTo (parameter_keys (command_of ps)) q) x.2 (known-keys (parameter_keys (command_of ps)) x.0))

-- without its written zero it is plain
omitted_plain : (ps : Pairs) → KeysTo 5 ps → ((c : ℕ) (m : Pairs) → value_of ps 4 ≡ some (Item.uint c) → value_of ps 5 ≡ some (Item.map m) → KeysTo (parameter_keys c) m)
    → PlainRequest (duration_omitted ps)
unfolding duration_omitted
omitted_plain ps keys inner = go (omits_zero (command_of ps)) refl
  where
    go : (b : Bool) → omits_zero (command_of ps) ≡ b → PlainRequest (cond b (under 5 zero_omitted ps) ps)
    go true x = record {
      envelope = under-keys 5 5 zero_omitted ps refl keys;
      parameters = λ c m e g.
          let y = left_there zero_omitted (value_of ps 5) m (sym (under-here 5 zero_omitted ps) ∙ g) in
          let k = inner c y.0 (sym (under-other 5 zero_omitted ps 4 refl) ∙ e) y.1 in (
            subst (λ (q : Pairs). KeysTo (parameter_keys c) q) y.2 (zero-keys y.0 (parameter_keys c) k),
            λ o z. no_zero y.0 (ap (λ (q : Pairs). value_of q 3) y.2 ∙ z),
          );
    }
    go false x = record {
      envelope = keys;
      parameters = λ c m e g. (inner c m e g, λ o z. absurd (no_both (sym o ∙ sym (command_named c ps e).1 ∙ x)));
    }

pub request-left : RequestLeft
request-left ps = omitted_plain (request_known ps) (known-envelope ps) (known-parameters ps)

-- RESPONSES
pub response-left : ResponseLeft
unfolding response_known
response-left c ps =
    let f = known (result_keys c) in
    record {
      envelope = known-keys 3 (under 3 f ps);
      result = λ m e.
          let x = left_there f (value_of ps 3) m (sym (known-exact 3 (under 3 f ps) 3 ∙ under-here 3 f ps) ∙ e) in
          subst (λ (q : Pairs). KeysTo (result_keys c) q) x.2 (known-keys (result_keys c) x.0);
    }
