-- What the fields of a command leave is what it does to every quantity: the others keep what they have.
use Prim.Native.Nat.{ℕ}
use mathlib.Core.Bool.{Bool, true, false, cond}
use mathlib.Core.Path.{◌≡◌, refl, sym, ap, ◌∙◌}
use mathlib.Core.List.{List}
use native.Mathlib.Omega.{arith}
use borrow.Author.Tests.{ne_eqb}
use lib.Dec.{eqb}
use lib.ListN.{length, get_or}
use Rattle.wire_messages.specs.declared.Field.{Field}
use Rattle.wire_messages.specs.declared.Phases.{Phases}
use Rattle.wire_messages.specs.Options.{Aim}
use Rattle.wire_messages.specs.declared.Limits.{Limits}
use Rattle.wire_messages.specs.declared.Setpoints.{Setpoints}
use Rattle.wire_messages.specs.declared.CurrentLimits.{CurrentLimits}
use Rattle.wire_messages.specs.declared.Command.{Command}
use Rattle.device_store.specs.Zones.{up_to, nothing}
use Rattle.device_store.specs.declared.Held.{Held}
use Rattle.device_store.specs.declared.Settings.{Settings}
use Rattle.device_store.proofs.Runs.{up_to-list, up_to-cong}
use Rattle.device_store.specs.Quantities.{helds, is_limit, is_setpoint, is_current, direction_of, phase_of}
use Rattle.command_by_quantity.specs.Says.{says, limit_field, setpoint_field, aim_field, phase_field}
use Rattle.command_effects.specs.Obeys.{field_action, action, done}
use Rattle.command_effects.specs.Fields.{left_by, with_two, with_phases, all_phases, helds_after}

module _ (s : Settings) (end : ℕ) where
  -- what is left of every quantity, by what is said of it
  abbrev left : (ℕ → Field) → List Held → List Held
  left f hs = up_to (λ q. left_by s (f q) q end (get_or hs q nothing)) helds

  abbrev mapped : Phases → ℕ → ℕ → Field
  mapped m d q = cond (is_current q) (cond (eqb (direction_of q) d) (phase_field m (phase_of q)) Field.Absent) Field.Absent

  keeps : (b : Bool) (f : Field) (q : ℕ) (h : Held) → h ≡ left_by s (cond b (cond false f Field.Absent) Field.Absent) q end h
  unfolding done field_action
  keeps true f q h = refl
  keeps false f q h = refl

  module _ (hs : List Held) (whole : length hs ≡ helds) where
    each : hs ≡ up_to (λ q. get_or hs q nothing) helds
    each = sym (up_to-list (λ q. get_or hs q nothing) helds hs nothing whole (λ q h. refl))

    left_limits : (f : ℕ → Field) → with_two s (f 0) (f 1) 0 end hs ≡ left (λ q. cond (is_limit q) (f (direction_of q)) Field.Absent) hs
    unfolding up_to with_two done field_action
    left_limits f = ap (λ (l : List Held). with_two s (f 0) (f 1) 0 end l) each

    left_setpoints : (f : ℕ → Field) → with_two s (f 0) (f 1) 2 end hs ≡ left (λ q. cond (is_setpoint q) (f (direction_of q)) Field.Absent) hs
    unfolding up_to with_two done field_action
    left_setpoints f = ap (λ (l : List Held). with_two s (f 0) (f 1) 2 end l) each

    left_currents : (f : ℕ → Field) → with_phases s (all_phases (f 1)) 5 end (with_phases s (all_phases (f 0)) 4 end hs)
        ≡ left (λ q. cond (is_current q) (f (direction_of q)) Field.Absent) hs
    unfolding up_to with_phases done field_action
    left_currents f = ap (λ (l : List Held). with_phases s (all_phases (f 1)) 5 end (with_phases s (all_phases (f 0)) 4 end l)) each

    pub left_none : (n : ℕ) → hs ≡ helds_after s (Command.Unserved n) end hs
    unfolding helds_after action done field_action says
    left_none n = each

    consumption : (m : Phases) → with_phases s m 4 end hs ≡ left (mapped m 0) hs
    unfolding up_to with_phases done field_action
    consumption m = ap (λ (l : List Held). with_phases s m 4 end l) each

    production : (m : Phases) → with_phases s m 5 end hs ≡ left (mapped m 1) hs
    unfolding up_to with_phases done field_action
    production m = ap (λ (l : List Held). with_phases s m 5 end l) each

    module _ (m : CurrentLimits) where
      turned : (d : ℕ) → m.direction ≡ d → left (mapped m.phases d) hs ≡ helds_after s (Command.SetCurrentLimits m) end hs
      unfolding helds_after action says
      turned d e = ap (λ (i : ℕ). left (mapped m.phases i) hs) (sym e)

      pub left_consumption : m.direction ≡ 0 → with_phases s m.phases 4 end hs ≡ helds_after s (Command.SetCurrentLimits m) end hs
      left_consumption e = consumption m.phases ∙ turned 0 e

      pub left_production : m.direction ≡ 1 → with_phases s m.phases 5 end hs ≡ helds_after s (Command.SetCurrentLimits m) end hs
      left_production e = production m.phases ∙ turned 1 e

      pub left_elsewhere : (m.direction ≡ 0 → ⊥) → (m.direction ≡ 1 → ⊥) → hs ≡ helds_after s (Command.SetCurrentLimits m) end hs
      unfolding helds_after action says
      left_elsewhere n o =
          each ∙ up_to-cong (λ q. get_or hs q nothing) (λ q. left_by s (mapped m.phases m.direction q) q end (get_or hs q nothing)) helds
          (λ q h. rw (ne_eqb (direction_of q) m.direction (λ e. omega arith)) (keeps (is_current q) (phase_field m.phases (phase_of q)) q (get_or hs q nothing)))

    -- each command's fields leave what the command does
    pub set_limit : (m : Limits) → with_two s (limit_field m 0) (limit_field m 1) 0 end hs ≡ helds_after s (Command.SetLimit m) end hs
    unfolding helds_after action says
    set_limit m = left_limits (limit_field m)

    pub clear_limit : (a : Aim) → with_two s (aim_field a 0) (aim_field a 1) 0 end hs ≡ helds_after s (Command.ClearLimit a) end hs
    unfolding helds_after action says
    clear_limit a = left_limits (aim_field a)

    pub set_setpoint : (m : Setpoints) → with_two s (setpoint_field m 0) (setpoint_field m 1) 2 end hs ≡ helds_after s (Command.SetSetpoint m) end hs
    unfolding helds_after action says
    set_setpoint m = left_setpoints (setpoint_field m)

    pub clear_setpoint : (a : Aim) → with_two s (aim_field a 0) (aim_field a 1) 2 end hs ≡ helds_after s (Command.ClearSetpoint a) end hs
    unfolding helds_after action says
    clear_setpoint a = left_setpoints (aim_field a)

    pub left_clear : (a : Aim)
        → with_phases s (all_phases (aim_field a 1)) 5 end (with_phases s (all_phases (aim_field a 0)) 4 end hs) ≡ helds_after s (Command.ClearCurrentLimits a) end hs
    unfolding helds_after action says
    left_clear a = left_currents (aim_field a)

-- what a map of phases leaves, and what the commands do, for a search
pub ruleset maps = (left_consumption, left_production, left_elsewhere)

pub ruleset lefts = (set_limit, clear_limit, set_setpoint, clear_setpoint, left_none)
