-- A command stores its own zone's record and the second: another zone's command finds what it tests as it was, and stores elsewhere.
use Prim.Native.Nat.{ℕ, zero, suc, ◌<◌}
use mathlib.Core.Bool.{Bool, true, false, cond, ◌||◌}
use mathlib.Core.Logic.{◌≢◌}
use mathlib.Core.Path.{◌≡◌, refl, sym, ap, ◌∙◌}
use mathlib.Core.List.{List, [], ◌∷◌}
use native.Mathlib.Decide.{ℕ_discrete}
use native.Mathlib.Omega.{arith}
use borrow.Author.Tests.{le-ltb}
use lib.Dec.{ltb, leb, eqb}
use lib.ListN.{length, get_or, set}
use lib.Seq.{get_or-set_other, set-get_or, set-set}
use Rattle.wire_messages.specs.declared.Command.{Command}
use Rattle.device_store.specs.Sizes.{helds, slots, end, words}
use Rattle.device_store.specs.Zones.{any, id_of, free_zone, first, slot_of, joined, zone_of}
use Rattle.device_store.specs.Words.{clock_of, since_of, override_of, settings_of, zones_of, put_zone, applied, after}
use Rattle.device_store.specs.declared.Zone.{Zone}
use Rattle.device_store.specs.declared.Settings.{Settings}
use Rattle.device_store.specs.declared.Change.{Change}
use Rattle.device_store.proofs.Tests.{never}
use Rattle.device_store.proofs.Runs.{length-up_to}
use Rattle.device_store.proofs.Lens.{zones_length, head-kept, head-commutes, puts_commute}
use Rattle.device_store.proofs.Effects.{applied-length, applied-settings, applied-clock, applied-override, applied-zones}
use Rattle.device_store.proofs.Slots.{slot_id, joined-below}
use Rattle.device_store.proofs.Answered.{refusal-keeps}
use Rattle.device_rules.specs.Rules.{late}
use Rattle.command_effects.specs.Effects.{obeyed}
use Rattle.device_calls.specs.declared.Decision.{Decision}
use Rattle.device_calls.specs.Refusals.{first_of}
use Rattle.device_calls.specs.Commands.{command_tests, command_number, command_after, decision_of, enacted}
use Rattle.device_calls.proofs.Decisions.{may_command, decision_enacted, decision_number}
use Rattle.kernel_laws.specs.Others.{found, would_hold, OthersTests, OthersNumber, OthersHold, EitherOrder}
use Rattle.kernel_laws.proofs.FirstOf.{accepted-exactly}

-- THE CLOCK is the same second: a second that was accepted is accepted again
pub late-again : (k t : ℕ) → late k t ≡ false → late t t ≡ false
unfolding late
late-again k t e = rw (le-ltb t t (omega arith)) (go (ltb t k) (leb end t) e)
  where
    go : (a b : Bool) → (a || b) ≡ false → b ≡ false
    go true b e = absurd (never e)
    go false b e = e

-- THE SLOTS: a record with its old id in a slot's place is found as before
first-kept : {A : Type 0} (p : A → Bool) (l : List A) (i : ℕ) (x d : A) → p x ≡ p (get_or l i d) → first p (set l i x) ≡ first p l
unfolding first
first-kept p [] i x d e = refl
first-kept p (y ∷ l) zero x d e = rw e
first-kept p (y ∷ l) (suc i) x d e = rw (first-kept p l i x d e)

pub slot_kept : (zs : List Zone) (i z : ℕ) (x : Zone) → id_of x ≡ id_of (get_or zs i free_zone) → slot_of (set zs i x) z ≡ slot_of zs z
unfolding slot_of
slot_kept zs i z x e = first-kept (λ y. eqb (id_of y) z) zs i x free_zone (rw e)

-- two zones are found in two slots, whatever the slots hold
pub slots_apart : (zs : List Zone) (z y : ℕ) → length zs ≡ slots → joined zs y ≡ true → z ≢ y → slot_of zs z ≢ slot_of zs y
slots_apart zs z y n j a e =
    let below : slot_of zs y < length zs = rw n (joined-below zs y j) in
    a (sym (slot_id zs z (rw e below)) ∙ ap (λ (i : ℕ). id_of (get_or zs i free_zone)) e ∙ slot_id zs y below)

-- A RECORD STORED at a second, all else as it was
abbrev stored : List ℕ → ℕ → ℕ → Zone → Change
stored ws t i x = record { time = t; slot = i; zone = x; since = since_of ws; overridden = override_of ws }

stamped : (ws : List ℕ) (t i : ℕ) (x : Zone) → applied ws (stored ws t i x) ≡ set (put_zone ws i x) 0 t
unfolding applied
stamped ws t i x =
    let us = put_zone ws i x in
    ap (λ (v : ℕ). set (set (set us 1 v) 2 (override_of ws)) 0 t) (sym (head-kept ws i x 1 (omega arith)))
    ∙ ap (λ (l : List ℕ). set (set l 2 (override_of ws)) 0 t) (set-get_or us 1 0)
    ∙ ap (λ (v : ℕ). set (set us 2 v) 0 t) (sym (head-kept ws i x 2 (omega arith)))
    ∙ ap (λ (l : List ℕ). set l 0 t) (set-get_or us 2 0)

-- two of them
twice : (ws : List ℕ) (t i j : ℕ) (x y : Zone) → set (put_zone (set (put_zone ws i x) 0 t) j y) 0 t ≡ set (put_zone (put_zone ws i x) j y) 0 t
twice ws t i j x y =
    ap (λ (l : List ℕ). set l 0 t) (head-commutes (put_zone ws i x) 0 t j y (omega arith)) ∙ set-set (put_zone (put_zone ws i x) j y) 0 t t

-- are stored in either order
pub stored_either : (ws : List ℕ) (t i j : ℕ) (x y : Zone) → length x.held ≡ helds → length y.held ≡ helds → i ≢ j
    → applied (applied ws (stored ws t i x)) (stored (applied ws (stored ws t i x)) t j y)
    ≡ applied (applied ws (stored ws t j y)) (stored (applied ws (stored ws t j y)) t i x)
stored_either ws t i j x y f g a =
    stamped (applied ws (stored ws t i x)) t j y
    ∙ ap (λ (l : List ℕ). set (put_zone l j y) 0 t) (stamped ws t i x)
    ∙ twice ws t i j x y
    ∙ ap (λ (l : List ℕ). set l 0 t) (puts_commute ws i j x y f g a)
    ∙ sym (twice ws t j i y x)
    ∙ ap (λ (l : List ℕ). set (put_zone l i x) 0 t) (sym (stamped ws t j y))
    ∙ sym (stamped (applied ws (stored ws t j y)) t i x)

-- two contents of the words are the same to a command
record AsBefore (us ws : List ℕ) (z t : ℕ) (c : Command) : Type 0 where
  tests : found us z t c ≡ found ws z t c
  slot : slot_of (zones_of us) z ≡ slot_of (zones_of ws) z
  holds : would_hold us z t c ≡ would_hold ws z t c

same_tests : (k j : ℕ) (a b u v : Bool) (s r : Settings) (o p t : ℕ) (c : Command) → late k t ≡ late j t → a ≡ b → u ≡ v → s ≡ r → o ≡ p
    → command_tests k a u s o t c ≡ command_tests j b v r p t c
same_tests k j a b u v s r o p t c l e f g h = rw (l, e, f, g, h)

-- WHAT ANOTHER ZONE'S COMMAND FINDS once a record with its old id is stored in slot i at an accepted second
module _ (ws : List ℕ) (size : length ws ≡ words) (t i z : ℕ) (x : Zone) (full : length x.held ≡ helds) (id : id_of x ≡ id_of (get_or (zones_of ws) i free_zone))
    (other : slot_of (zones_of ws) z ≢ i) (accepted : late (clock_of ws) t ≡ false) where
  slot_found : slot_of (set (zones_of ws) i x) z ≡ slot_of (zones_of ws) z
  slot_found = slot_kept (zones_of ws) i z x id

  joined-found : joined (set (zones_of ws) i x) z ≡ joined (zones_of ws) z
  unfolding joined
  joined-found = rw slot_found

  zone_found : zone_of (set (zones_of ws) i x) z ≡ zone_of (zones_of ws) z
  unfolding zone_of
  zone_found = rw slot_found (get_or-set_other (zones_of ws) i (slot_of (zones_of ws) z) x free_zone other)

  zones_now : zones_of (applied ws (stored ws t i x)) ≡ set (zones_of ws) i x
  zones_now = applied-zones ws (stored ws t i x) size full

  record_found : zone_of (zones_of (applied ws (stored ws t i x))) z ≡ zone_of (zones_of ws) z
  record_found = ap (λ (zs : List Zone). zone_of zs z) zones_now ∙ zone_found

  as_before : (c : Command) → AsBefore (applied ws (stored ws t i x)) ws z t c
  as_before c =
      record {
        tests =
            same_tests _ _ _ _ _ _ _ _ _ _ t c
            (ap (λ (k : ℕ). late k t) (applied-clock ws (stored ws t i x) size) ∙ late-again (clock_of ws) t accepted ∙ sym accepted)
            (ap (λ (zs : List Zone). joined zs z) zones_now ∙ joined-found)
            (ap (λ (y : Zone). y.up) record_found)
            (applied-settings ws (stored ws t i x))
            (applied-override ws (stored ws t i x) size);
        slot = ap (λ (zs : List Zone). slot_of zs z) zones_now ∙ slot_found;
        holds =
            ap (λ (s : Settings). obeyed s c t (zone_of (zones_of (applied ws (stored ws t i x))) z)) (applied-settings ws (stored ws t i x))
            ∙ ap (obeyed (settings_of ws) c t) record_found;
      }

-- so it gets the same number, and is decided alike
number-before : (us ws : List ℕ) (z t : ℕ) (c : Command) → AsBefore us ws z t c → command_number us z t c ≡ command_number ws z t c
unfolding command_number
number-before us ws z t c a = ap first_of a.tests

decision_before : (us ws : List ℕ) (z t : ℕ) (c : Command) → AsBefore us ws z t c → decision_of us z t c ≡ decision_of ws z t c
unfolding decision_of
decision_before us ws z t c a = rw (number-before us ws z t c a, a.slot, a.holds)

-- WHAT IS DECIDED on an accepted command
module _ (ws : List ℕ) (z t : ℕ) (c : Command) where
  pub not_late : command_number ws z t c ≡ 0 → late (clock_of ws) t ≡ false
  unfolding command_number any
  not_late e = (accepted-exactly (found ws z t c) refl).0 e 1

  pub command_stored : command_number ws z t c ≡ 0
      → command_after ws z t c ≡ applied ws (stored ws t (slot_of (zones_of ws) z) (would_hold ws z t c))
  unfolding enacted decision_of after
  command_stored e = sym (decision_enacted ws z t c) ∙ rw e

  pub command_refused : command_number ws z t c ≢ 0 → command_after ws z t c ≡ ws
  unfolding command_after
  command_refused h = refusal-keeps ws (command_number ws z t c) _ h

  obeyed-full : length (would_hold ws z t c).held ≡ helds
  unfolding obeyed
  obeyed-full = length-up_to _ helds

  obeyed-id : id_of (would_hold ws z t c) ≡ id_of (get_or (zones_of ws) (slot_of (zones_of ws) z) free_zone)
  unfolding obeyed id_of zone_of
  obeyed-id = refl

  pub command_length : length (command_after ws z t c) ≡ length ws
  command_length =
      elim (ℕ_discrete (command_number ws z t c) 0) [
        | yes e ↦ rw (command_stored e) (applied-length ws _)
        | no h ↦ rw (command_refused h)
      ]

  pub command_settings : settings_of (command_after ws z t c) ≡ settings_of ws
  command_settings =
      elim (ℕ_discrete (command_number ws z t c) 0) [
        | yes e ↦ rw (command_stored e) (applied-settings ws _)
        | no h ↦ rw (command_refused h)
      ]

-- TWO COMMANDS
module _ (ws : List ℕ) (z y t : ℕ) (c d : Command) (size : length ws ≡ words) (apart : z ≢ y) where
  their_slots : command_number ws y t d ≡ 0 → slot_of (zones_of ws) z ≢ slot_of (zones_of ws) y
  their_slots e = slots_apart (zones_of ws) z y (zones_length ws) (may_command ws y t d e).0 apart

  left : AsBefore (command_after ws y t d) ws z t c
  left =
      elim (ℕ_discrete (command_number ws y t d) 0) [
        | yes e ↦
            rw (command_stored ws y t d e)
            (as_before ws size t (slot_of (zones_of ws) y) z _ (obeyed-full ws y t d) (obeyed-id ws y t d) (their_slots e) (not_late ws y t d e) c)
        | no h ↦ rw (command_refused ws y t d h) (record { tests = refl; slot = refl; holds = refl })
      ]

  -- the second of two commands, as it would be decided without the first
  second : command_after (command_after ws y t d) z t c ≡ enacted (command_after ws y t d) t (decision_of ws z t c)
  second =
      sym (decision_enacted (command_after ws y t d) z t c)
      ∙ ap (enacted (command_after ws y t d) t) (decision_before (command_after ws y t d) ws z t c left)

pub others-tests : OthersTests
others-tests ws z y t c d size apart = (left ws z y t c d size apart).tests

pub others-number : OthersNumber
others-number ws z y t c d size apart = number-before (command_after ws y t d) ws z t c (left ws z y t c d size apart)

pub others-hold : OthersHold
others-hold ws z y t c d size apart = (left ws z y t c d size apart).holds

-- decisions on two slots are enacted in either order
refused-stays : (ws : List ℕ) (t : ℕ) (x : Decision) → x.number ≢ 0 → enacted ws t x ≡ ws
unfolding enacted
refused-stays ws t x h = refusal-keeps ws x.number _ h

enacts : (ws : List ℕ) (t : ℕ) (x : Decision) → x.number ≡ 0 → enacted ws t x ≡ applied ws (stored ws t x.slot x.zone)
unfolding enacted after
enacts ws t x e = rw e

enacted-either : (ws : List ℕ) (t : ℕ) (x y : Decision) → length x.zone.held ≡ helds → length y.zone.held ≡ helds
    → (x.number ≡ 0 → y.number ≡ 0 → x.slot ≢ y.slot) → enacted (enacted ws t x) t y ≡ enacted (enacted ws t y) t x
enacted-either ws t x y f g a =
    elim (ℕ_discrete x.number 0) [
      | yes e ↦
          elim (ℕ_discrete y.number 0) [
            | yes h ↦
                enacts (enacted ws t x) t y h
                ∙ ap (λ (l : List ℕ). applied l (stored l t y.slot y.zone)) (enacts ws t x e)
                ∙ stored_either ws t x.slot y.slot x.zone y.zone f g (a e h)
                ∙ ap (λ (l : List ℕ). applied l (stored l t x.slot x.zone)) (sym (enacts ws t y h))
                ∙ sym (enacts (enacted ws t y) t x e)
            | no h ↦ refused-stays (enacted ws t x) t y h ∙ ap (λ (l : List ℕ). enacted l t x) (sym (refused-stays ws t y h))
          ]
      | no e ↦ ap (λ (l : List ℕ). enacted l t y) (refused-stays ws t x e) ∙ sym (refused-stays (enacted ws t y) t x e)
    ]

module _ (ws : List ℕ) (z t : ℕ) (c : Command) where
  decided_full : length (decision_of ws z t c).zone.held ≡ helds
  unfolding decision_of
  decided_full = go (eqb (command_number ws z t c) 0)
    where
      go : (b : Bool) → length (cond {A = Decision} b (record { number = 0; slot = slot_of (zones_of ws) z; zone = would_hold ws z t c })
          (record { number = command_number ws z t c; slot = slots; zone = free_zone })).zone.held ≡ helds
      go true = obeyed-full ws z t c
      go false = refl

  decided_slot : command_number ws z t c ≡ 0 → (decision_of ws z t c).slot ≡ slot_of (zones_of ws) z
  unfolding decision_of
  decided_slot e = rw e

pub either_order : EitherOrder
either_order ws z y t c d size apart =
    second ws z y t c d size apart
    ∙ ap (λ (l : List ℕ). enacted l t (decision_of ws z t c)) (sym (decision_enacted ws y t d))
    ∙ enacted-either ws t (decision_of ws y t d) (decision_of ws z t c) (decided_full ws y t d) (decided_full ws z t c)
    (λ e h q.
    let n = sym (decision_number ws y t d) ∙ e in
    their_slots ws z y t c d size apart n (sym (decided_slot ws z t c (sym (decision_number ws z t c) ∙ h)) ∙ sym q ∙ decided_slot ws y t d n))
    ∙ ap (λ (l : List ℕ). enacted l t (decision_of ws y t d)) (decision_enacted ws z t c)
    ∙ sym (second ws y z t d c size (λ e. apart (sym e)))
