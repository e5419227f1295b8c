-- A test that no absent field passes: the quantities that a Set command has fields of decide it.
use Prim.Native.Nat.{ℕ, zero, suc}
use mathlib.Core.Bool.{Bool, true, false, cond, ◌||◌}
use mathlib.Core.Path.{◌≡◌, refl, sym, ap, ◌∙◌}
use native.Mathlib.Omega.{arith}
use borrow.Author.Tests.{ne_eqb}
use lib.Dec.{eqb}
use Rattle.wire_messages.specs.declared.Field.{Field}
use Rattle.wire_messages.specs.declared.Phases.{Phases}
use Rattle.wire_messages.specs.declared.Limits.{Limits}
use Rattle.wire_messages.specs.declared.Setpoints.{Setpoints}
use Rattle.wire_messages.specs.declared.CurrentLimits.{CurrentLimits}
use Rattle.wire_messages.specs.declared.Command.{Command}
use Rattle.device_store.specs.declared.Settings.{Settings}
use Rattle.device_store.specs.Quantities.{helds, is_limit, is_setpoint, is_current, direction_of, phase_of}
use Rattle.command_by_quantity.specs.Says.{says, some_of, limit_field, setpoint_field, phase_field}
use Rattle.command_tests.specs.Asked.{is_so, some_field_is}
use Rattle.command_tests.specs.declared.asks.FieldTest.{FieldTest}

-- a test that none passes, and one that two quantities or three decide
pub some-none : (p : ℕ → Bool) → ((q : ℕ) → p q ≡ false) → (n : ℕ) → some_of p n ≡ false
unfolding some_of
some-none p h zero = refl
some-none p h (suc n) = rw (some-none p h n, h n)

two : (a b : Bool) → (a || b) ≡ (((((((((a || b) || false) || false) || false) || false) || false) || false) || false) || false)
two true b = refl
two false true = refl
two false false = refl

two-behind : (a b : Bool) → (a || b) ≡ (((((((a || b) || false) || false) || false) || false) || false) || false)
two-behind true b = refl
two-behind false true = refl
two-behind false false = refl

three : (a b c : Bool) → (a || (b || c)) ≡ (((((a || false) || b) || false) || c) || false)
three true b c = refl
three false true c = refl
three false false true = refl
three false false false = refl

three_behind : (a b c : Bool) → (a || (b || c)) ≡ ((((a || false) || b) || false) || c)
three_behind true b c = refl
three_behind false true c = refl
three_behind false false c = refl

module _ (p : ℕ → Bool) where
  limits-decide : ((q : ℕ) → is_limit q ≡ false → p q ≡ false) → (p 0 || p 1) ≡ some_of p helds
  unfolding some_of
  limits-decide h = rw (h 2 refl, h 3 refl, h 4 refl, h 5 refl, h 6 refl, h 7 refl, h 8 refl, h 9 refl) (two (p 0) (p 1))

  setpoints-decide : ((q : ℕ) → is_setpoint q ≡ false → p q ≡ false) → (p 2 || p 3) ≡ some_of p helds
  unfolding some_of
  setpoints-decide h = rw (h 0 refl, h 1 refl, h 4 refl, h 5 refl, h 6 refl, h 7 refl, h 8 refl, h 9 refl) (two-behind (p 2) (p 3))

absent_of : (k : FieldTest) (s : Settings) (q : ℕ) → is_so k s Field.Absent q ≡ false
absent_of FieldTest.Named s q = refl
absent_of FieldTest.Negative s q = refl
absent_of FieldTest.UnsupportedDirection s q = refl
absent_of FieldTest.MissingPhase s q = refl
absent_of FieldTest.AboveMaximum s q = refl

module _ (k : FieldTest) (s : Settings) where
  absent : (q : ℕ) → is_so k s Field.Absent q ≡ false
  absent = absent_of k s

  pub of-limits : (m : Limits) → (is_so k s (limit_field m 0) 0 || is_so k s (limit_field m 1) 1) ≡ some_field_is k s (Command.SetLimit m)
  unfolding says
  of-limits m = limits-decide (λ q. is_so k s (says (Command.SetLimit m) q) q) (λ q e. rw e (absent q))

  pub of_setpoints : (m : Setpoints) → (is_so k s (setpoint_field m 0) 2 || is_so k s (setpoint_field m 1) 3) ≡ some_field_is k s (Command.SetSetpoint m)
  unfolding says
  of_setpoints m = setpoints-decide (λ q. is_so k s (says (Command.SetSetpoint m) q) q) (λ q e. rw e (absent q))

  -- what a map of phases says in direction d
  abbrev mapped : Phases → ℕ → ℕ → Bool
  mapped m d q = is_so k s (cond (is_current q) (cond (eqb (direction_of q) d) (phase_field m (phase_of q)) Field.Absent) Field.Absent) q

  away : (b : Bool) (f : Field) (q : ℕ) → is_so k s (cond b (cond false f Field.Absent) Field.Absent) q ≡ false
  away true f q = absent q
  away false f q = absent q

  of_consumption : (m : Phases) → (is_so k s m.a 4 || (is_so k s m.b 6 || is_so k s m.c 8)) ≡ some_of (mapped m 0) helds
  unfolding some_of
  of_consumption m =
      rw (absent 0, absent 1, absent 2, absent 3, absent 5, absent 7, absent 9) (three (is_so k s m.a 4) (is_so k s m.b 6) (is_so k s m.c 8))

  of_production : (m : Phases) → (is_so k s m.a 5 || (is_so k s m.b 7 || is_so k s m.c 9)) ≡ some_of (mapped m 1) helds
  unfolding some_of
  of_production m =
      rw (absent 0, absent 1, absent 2, absent 3, absent 4, absent 6, absent 8)
      (three_behind (is_so k s m.a 5) (is_so k s m.b 7) (is_so k s m.c 9))

  module _ (m : CurrentLimits) where
    turned : (d : ℕ) → m.direction ≡ d → some_of (mapped m.phases d) helds ≡ some_field_is k s (Command.SetCurrentLimits m)
    unfolding says
    turned d e = ap (λ (i : ℕ). some_of (mapped m.phases i) helds) (sym e)

    pub map-consumption : m.direction ≡ 0 → (is_so k s m.phases.a 4 || (is_so k s m.phases.b 6 || is_so k s m.phases.c 8)) ≡ some_field_is k s (Command.SetCurrentLimits m)
    map-consumption e = of_consumption m.phases ∙ turned 0 e

    pub map-production : m.direction ≡ 1 → (is_so k s m.phases.a 5 || (is_so k s m.phases.b 7 || is_so k s m.phases.c 9)) ≡ some_field_is k s (Command.SetCurrentLimits m)
    map-production e = of_production m.phases ∙ turned 1 e

    pub map-none : (m.direction ≡ 0 → ⊥) → (m.direction ≡ 1 → ⊥) → false ≡ some_field_is k s (Command.SetCurrentLimits m)
    unfolding says
    map-none n o =
        sym (some-none (mapped m.phases m.direction)
        (λ q. rw (ne_eqb (direction_of q) m.direction (λ e. omega arith)) (away (is_current q) (phase_field m.phases (phase_of q)) q)) helds)

-- which quantities a map is asked about, and the other Set commands
pub ruleset map_of = (map-consumption, map-production, map-none)

pub ruleset of_fields = (of-limits, of_setpoints)
