-- A command in three steps: the decision as the code makes it, what it is answered, and what it leaves, are those of the one call.
use Prim.Native.Nat.{ℕ}
use mathlib.Core.Bool.{Bool, true, false, cond, not}
use mathlib.Core.Path.{◌≡◌, refl, sym, ◌∙◌}
use mathlib.Core.List.{List}
use native.Mathlib.Omega.{arith}
use borrow.Author.Tests.{ltb-true, eq-eqb, ne_eqb, eqb-true, eqb-false}
use lib.Dec.{ltb, eqb}
use lib.ListN.{length, get_or}
use lib.Seq.{set_out}
use Rattle.refusals.specs.Answers.{number_of}
use Rattle.refusals.specs.declared.refusal.Refusal.{Refusal}
use Rattle.wire_messages.specs.declared.Command.{Command}
use Rattle.wire_messages.specs.declared.Outcome.{Outcome}
use Rattle.device_store.specs.Sizes.{helds, slots, words}
use Rattle.device_store.specs.Zones.{id_of, free_zone, is_joined, is_up, slot_of, joined, zone_of}
use Rattle.device_store.specs.Words.{clock_of, since_of, override_of, settings_of, zones_of, applied, after}
use Rattle.device_holds.specs.Holds.{situation_of, with_zone, values_at}
use Rattle.device_calls.specs.Refusals.{first_of, late}
use Rattle.device_calls.specs.Calls.{zone_change}
use Rattle.command_effects.specs.Content.{is_unserved}
use Rattle.device_calls.specs.Commands.{command_tests, command_number, command_after, command_answer, decision_of, outcome_for, enacted}
use Rattle.command_effects.specs.Effects.{obeyed}
use Rattle.device_store.specs.declared.Zone.{Zone}
use Rattle.device_store.specs.declared.Change.{Change}
use Rattle.device_calls.specs.declared.Decision.{Decision}
use Rattle.device_store.proofs.Runs.{length-up_to}
use Rattle.device_store.proofs.Lens.{zones_length}
use Rattle.device_store.proofs.Effects.{applied-settings, applied-zones, applied-since, applied-override}
use Rattle.device_store.proofs.Slots.{joined_slot, slot_joined, found-slot}
use Rattle.device_store.proofs.Answered.{refusal-keeps}
use Rattle.device_calls.proofs.Changes.{up_change, joined-there}

-- no slot: as it stands
with_none : (ws : List ℕ) (x : Zone) (t : ℕ) → values_at (with_zone (situation_of ws) slots x) t ≡ values_at (situation_of ws) t
with_none ws x t = rw (set_out (zones_of ws) slots x (omega (arith, zones_length ws)))

-- what a zone may command is up: the third and fourth tests
passed : (a b there up : Bool) (n : ℕ) → cond a 4 (cond b 5 (cond (not there) 9 (cond (not up) 10 n))) ≡ 0 → (there ≡ true) × (up ≡ true)
passed true b there up n e = absurd (omega arith)
passed false true there up n e = absurd (omega arith)
passed false false false up n e = absurd (omega arith)
passed false false true false n e = absurd (omega arith)
passed false false true true n e = (refl, refl)

-- a refusal's number is not 0
pub refused_number : (e : Refusal) → number_of e ≡ 0 → ⊥
refused_number Refusal.BadLength q = absurd (omega (arith, q))
refused_number Refusal.BadCbor q = absurd (omega (arith, q))
refused_number Refusal.BadMessage q = absurd (omega (arith, q))
refused_number Refusal.NotServed q = absurd (omega (arith, q))
refused_number Refusal.BadTime q = absurd (omega (arith, q))
refused_number Refusal.BadZone q = absurd (omega (arith, q))
refused_number Refusal.Already q = absurd (omega (arith, q))
refused_number Refusal.Full q = absurd (omega (arith, q))
refused_number Refusal.NotJoined q = absurd (omega (arith, q))
refused_number Refusal.LinkDown q = absurd (omega (arith, q))
refused_number Refusal.NotSupported q = absurd (omega (arith, q))
refused_number Refusal.Overridden q = absurd (omega (arith, q))
refused_number Refusal.BadValue q = absurd (omega (arith, q))
refused_number Refusal.BelowMinimum q = absurd (omega (arith, q))
refused_number Refusal.NoSpace q = absurd (omega (arith, q))
refused_number Refusal.BadSettings q = absurd (omega (arith, q))
refused_number Refusal.NotAscending q = absurd (omega (arith, q))
refused_number Refusal.BadOverride q = absurd (omega (arith, q))

module _ (ws : List ℕ) (z t : ℕ) (c : Command) where
  pub may_command : command_number ws z t c ≡ 0 → (joined (zones_of ws) z ≡ true) × ((zone_of (zones_of ws) z).up ≡ true)
  unfolding command_number first_of
  may_command e =
      passed (is_unserved c) (late (clock_of ws) t) (joined (zones_of ws) z) (zone_of (zones_of ws) z).up _ e

  -- THE DECISION, FROM THE PRECEDENCE
  abbrev number_at : ℕ → ℕ
  number_at i =
      first_of (command_tests (clock_of ws) (ltb i slots) (get_or (zones_of ws) i free_zone).up (settings_of ws) (override_of ws) t c)

  number-at : (i : ℕ) → i ≡ joined_slot (zones_of ws) z → number_at i ≡ command_number ws z t c
  unfolding command_number first_of zone_of
  number-at i e = go (joined (zones_of ws) z) refl
    where
      there : ltb i slots ≡ joined (zones_of ws) z
      there = rw e (slot_joined (zones_of ws) z)

      go : (b : Bool) → joined (zones_of ws) z ≡ b → number_at i ≡ command_number ws z t c
      go true j = rw (there, j, found-slot (zones_of ws) z i e (ltb-true i slots (there ∙ j)))
      go false j = rw (there, j)

  pub decided : (i n : ℕ) → i ≡ joined_slot (zones_of ws) z → n ≡ number_at i → n ≡ 0
      → record { number = 0; slot = i; zone = obeyed (settings_of ws) c t (get_or (zones_of ws) i free_zone) } ≡ decision_of ws z t c
  unfolding decision_of zone_of
  decided i n e f g =
      let m : command_number ws z t c ≡ 0 = sym (number-at i e) ∙ sym f ∙ g in
      let s : i ≡ slot_of (zones_of ws) z = found-slot (zones_of ws) z i e (ltb-true i slots (rw e (slot_joined (zones_of ws) z) ∙ (may_command m).0)) in
      rw (eq-eqb (command_number ws z t c) 0 m, s)

  pub undecided : (i n : ℕ) → i ≡ joined_slot (zones_of ws) z → n ≡ number_at i → (n ≡ 0 → ⊥) → record { number = n; slot = slots; zone = free_zone } ≡ decision_of ws z t c
  unfolding decision_of
  undecided i n e f g =
      let m : n ≡ command_number ws z t c = f ∙ number-at i e in
      rw (ne_eqb (command_number ws z t c) 0 (λ q. g (m ∙ q)), m)

  -- WHAT IT LEAVES
  abbrev obeying : Zone
  obeying = obeyed (settings_of ws) c t (zone_of (zones_of ws) z)

  abbrev stored : Change
  stored = record { time = t; slot = slot_of (zones_of ws) z; zone = obeying; since = since_of ws; overridden = override_of ws }

  -- its link is up before and after, so the second since which none is up stays
  same-change : command_number ws z t c ≡ 0 → zone_change ws t (slot_of (zones_of ws) z) obeying ≡ stored
  unfolding is_up is_joined id_of zone_of obeyed
  same-change m =
      up_change ws t (slot_of (zones_of ws) z) obeying (rw (joined-there ws z (may_command m).0) (may_command m).1)

  pub decision_enacted : enacted ws t (decision_of ws z t c) ≡ command_after ws z t c
  unfolding enacted decision_of command_after
  decision_enacted = go (eqb (command_number ws z t c) 0) refl
    where
      go : (b : Bool) → eqb (command_number ws z t c) 0 ≡ b → enacted ws t (decision_of ws z t c) ≡ command_after ws z t c
      go true e = rw (e, same-change (eqb-true (command_number ws z t c) 0 e), eqb-true (command_number ws z t c) 0 e)
      go false e =
          let keeps : (x : Change) → after ws (command_number ws z t c) x ≡ ws = λ x. refusal-keeps ws (command_number ws z t c) x (eqb-false (command_number ws z t c) 0 e) in
          rw e (keeps _ ∙ sym (keeps _))

  -- WHAT IT IS ANSWERED
  full : length obeying.held ≡ helds
  unfolding obeyed
  full = length-up_to _ helds

  situation_stored : length ws ≡ words → situation_of (applied ws stored) ≡ with_zone (situation_of ws) (slot_of (zones_of ws) z) obeying
  situation_stored n = rw (applied-settings ws stored, applied-zones ws stored n full, applied-since ws stored n, applied-override ws stored n)

  pub decision_answered : length ws ≡ words → outcome_for ws t c (decision_of ws z t c) ≡ (command_answer ws z t c).outcome
  unfolding outcome_for decision_of command_answer command_after after
  decision_answered n = go (eqb (command_number ws z t c) 0) refl
    where
      go : (b : Bool) → eqb (command_number ws z t c) 0 ≡ b → outcome_for ws t c (decision_of ws z t c) ≡ (command_answer ws z t c).outcome
      go true e = rw (e, same-change (eqb-true (command_number ws z t c) 0 e), situation_stored n, eqb-true (command_number ws z t c) 0 e)
      go false e = rw (e, with_none ws free_zone t)

  pub decision_number : (decision_of ws z t c).number ≡ command_number ws z t c
  unfolding decision_of
  decision_number = go (eqb (command_number ws z t c) 0) refl
    where
      go : (b : Bool) → eqb (command_number ws z t c) 0 ≡ b → (decision_of ws z t c).number ≡ command_number ws z t c
      go true e = rw (e, eqb-true (command_number ws z t c) 0 e)
      go false e = rw e

  -- THE ONE CALL
  pub answered : length ws ≡ words → (x : Decision) (o : Outcome) → x ≡ decision_of ws z t c → o ≡ outcome_for ws t c x → record { number = x.number; outcome = o } ≡ command_answer ws z t c
  unfolding command_answer
  answered n x o e f = rw (f, e, decision_answered n, decision_number)
