-- A command that a frame carries names values below 2^63 alone.
use Rattle.std.specs.Prelude.{None, Some}
use mathlib.Core.Path.{◌≡◌, refl}
use mathlib.Core.Bool.{Bool, true, false, cond, ◌&&◌}
use mathlib.Core.List.{List}
use mathlib.Core.Option
use mathlib.Core.Option.{Option, some, none, bind}
use Prim.Native.Nat.{ℕ, ◌<◌, ◌^◌, min}
use native.Mathlib.Nat.{min-le_right}
use native.Mathlib.Omega.{arith}
use lib.Dec.{ltb, eqb}
use lib.IntN.{ℤ, pos, negsuc}
use borrow.Author.Tests.{ltb-true}
use Rattle.wire_cbor.specs.Item.{Item, Pairs, payload_of}
use Rattle.wire_cbor.specs.Find.{value_of}
use Rattle.wire_messages.specs.declared.Field.{Field}
use Rattle.wire_messages.specs.Options.{Aim}
use Rattle.wire_messages.specs.declared.Limits.{Limits}
use Rattle.wire_messages.specs.declared.Phases.{Phases}
use Rattle.wire_messages.specs.declared.CurrentLimits.{CurrentLimits}
use Rattle.wire_messages.specs.declared.Command.{Command}
use Rattle.wire_prefix.specs.Prefix.{framed, payload_in}
use Rattle.wire_fields.specs.Fields.{map_in, number_up_to, needed, optional, in_range, signed, most32, value_in, amount_in, aim_in}
use Rattle.wire_fields.specs.ByPhase.{only_phases, each_phase, by_phase, phases_from, phases_in}
use Rattle.wire_requests.specs.Settings.{setting_in, target_of, limits_from, setpoints_from, current_limits_in}
use Rattle.wire_messages.specs.declared.set_parameters.Setting.{Setting}
use Rattle.wire_requests.specs.Requests.{Envelope, envelope_in, command_in, with_command, from_envelope, from_payload, read_request}
use Rattle.wire_messages.specs.Numbers.{served_at, served_command}
use Rattle.wire_requests.specs.declared.reading.Reading.{Reading}
use Rattle.device_store.specs.declared.Settings.{Settings}
use Rattle.command_effects.specs.declared.actions.Action.{Action}
use Rattle.device_store.specs.Sizes.{value_end}
use Rattle.device_store.specs.Quantities.{direction_of, phase_of}
use Rattle.command_effects.specs.Says.{target_field, phase_field, aim_field, kind_of, is_of, field_at, says, natural}
use Rattle.command_effects.specs.Effects.{field_action, action}
use Rattle.command_effects.specs.Says.{top_of}

-- SMALL: a number below 2^63, or no number
abbrev pub SmallField : Field → Type 0
SmallField Field.Absent = Unit {0}
SmallField Field.Null = Unit {0}
SmallField (Field.Value z) = natural z < value_end

abbrev SmallLimits : Limits → Type 0
SmallLimits m = SmallField m.consumption × SmallField m.production

-- of every quantity
abbrev pub SmallCommand : Command → Type 0
SmallCommand c = (q : ℕ) → SmallField (says c q)

abbrev pub SmallReading : Reading → Type 0
SmallReading (Reading.Is r) = SmallCommand r.command
SmallReading (Reading.Unserved i) = Unit {0}
SmallReading (Reading.Refused n) = Unit {0}

-- WHAT IS READ
-- what an option holds, if anything, is P
abbrev Every : {X : Type 0} → (X → Type 0) → Option X → Type 0
Every P none = Unit {0}
Every P (some x) = P x

every_bind : {X Y : Type 0} (P : X → Type 0) (Q : Y → Type 0) (o : Option X) (f : X → Option Y) → Every P o → ((x : X) → P x → Every Q (f x)) → Every Q (bind o f)
unfolding bind
every_bind P Q none f h k = tt
every_bind P Q (some x) f h k = k x h

any-bind : {X Y : Type 0} (Q : Y → Type 0) (o : Option X) (f : X → Option Y) → ((x : X) → Every Q (f x)) → Every Q (bind o f)
unfolding bind
any-bind Q none f k = tt
any-bind Q (some x) f k = k x

every_map : {X Y : Type 0} (P : X → Type 0) (Q : Y → Type 0) (o : Option X) (f : X → Y) → Every P o → ((x : X) → P x → Q (f x)) → Every Q (Option.map f o)
every_map P Q none f h k = tt
every_map P Q (some x) f h k = k x h

any-map : {X Y : Type 0} (Q : Y → Type 0) (o : Option X) (f : X → Y) → ((x : X) → Q (f x)) → Every Q (Option.map f o)
any-map Q none f k = tt
any-map Q (some x) f k = k x

small_int : (n : ℕ) (z : ℤ) → (n < 2 ^ 63 → natural z < value_end) → Every SmallField (in_range n z)
small_int n z k = go (ltb n (2 ^ 63)) refl
  where
    go : (b : Bool) → ltb n (2 ^ 63) ≡ b → Every SmallField (cond b (some (Field.Value z)) none)
    go true e = k (ltb-true n (2 ^ 63) e)
    go false e = tt

small_signed : (null : Bool) (i : Item) → Every SmallField (signed null i)
unfolding signed
small_signed null (Item.uint v) = small_int v (pos v) (λ h. h)
small_signed null (Item.nint v) = small_int v (negsuc v) (λ h. omega arith)
small_signed null (Item.bytes b) = tt
small_signed null (Item.text b) = tt
small_signed null (Item.array is) = tt
small_signed null (Item.map ps) = tt
small_signed null (Item.simple v) = go (eqb v 22) null
  where
    go : (a b : Bool) → Every SmallField (cond a (cond b (some Field.Null) none) none)
    go true true = tt
    go true false = tt
    go false b = tt

small_value : (null : Bool) (o : Option Item) → Every SmallField (value_in null o)
unfolding value_in optional
small_value null none = tt
small_value null (some i) = every_map SmallField SmallField (signed null i) (λ f. f) (small_signed null i) (λ f h. h)

abbrev SmallSetting : Setting → Type 0
SmallSetting s = SmallField s.consumption × SmallField s.production

small_setting : (null : Bool) (ps : Pairs) → Every SmallSetting (setting_in null ps)
unfolding setting_in
small_setting null ps =
    every_bind SmallField SmallSetting (value_in null (value_of ps 1)) _ (small_value null (value_of ps 1)) (λ c hc.
    every_bind SmallField SmallSetting (value_in null (value_of ps 2)) _ (small_value null (value_of ps 2)) (λ p hp.
    any-bind SmallSetting (amount_in most32 (value_of ps 3)) _ (λ d.
    any-bind SmallSetting (needed (number_up_to 255) (value_of ps 4)) _ (λ k. (hc, hp)))))

small_cond : (b : Bool) (f g : Field) → SmallField f → SmallField g → SmallField (cond b f g)
small_cond true f g h k = h
small_cond false f g h k = k

small_target : (f : Field) → SmallField f → SmallField (target_field (target_of f))
small_target Field.Absent h = tt
small_target Field.Null h = tt
small_target (Field.Value z) h = h

-- a clear says no number
small_aim : (a : Aim) (d : ℕ) → SmallField (aim_field a d)
small_aim None d = tt
small_aim (Some e) d = small_cond (eqb e d) Field.Null Field.Absent tt tt

-- each phase as value_in reads it
abbrev SmallPhases : Phases → Type 0
SmallPhases p = SmallField p.a × SmallField p.b × SmallField p.c

small_phases : (null : Bool) (o : Option Item) → Every SmallPhases (phases_in null o)
unfolding phases_in by_phase each_phase
small_phases null o = any-bind SmallPhases (needed map_in o) _ (λ ps. go (only_phases ps) ps)
  where
    read : Pairs → Option Phases
    read ps = bind (value_in null (value_of ps 0)) (λ a. bind (value_in null (value_of ps 1)) (λ b. bind (value_in null (value_of ps 2)) (λ c. some (phases_from a b c))))

    go : (k : Bool) (ps : Pairs) → Every SmallPhases (cond k (read ps) none)
    go false ps = tt
    go true ps =
        every_bind SmallField SmallPhases (value_in null (value_of ps 0)) _ (small_value null (value_of ps 0)) (λ a ha.
        every_bind SmallField SmallPhases (value_in null (value_of ps 1)) _ (small_value null (value_of ps 1)) (λ b hb.
        every_bind SmallField SmallPhases (value_in null (value_of ps 2)) _ (small_value null (value_of ps 2)) (λ c hc. (ha, hb, hc))))

small_phase : (m : Phases) (p : ℕ) → SmallPhases m → SmallField (phase_field m p)
small_phase m p h = small_cond (eqb p 0) m.a (cond (eqb p 1) m.b m.c) h.0 (small_cond (eqb p 1) m.b m.c h.1 h.2)

small_currents : (ps : Pairs) → Every (λ (m : CurrentLimits). SmallPhases m.phases) (current_limits_in ps)
unfolding current_limits_in
small_currents ps =
    every_bind SmallPhases (λ (m : CurrentLimits). SmallPhases m.phases) (phases_in true (value_of ps 1)) _ (small_phases true (value_of ps 1)) (λ f h.
    any-bind (λ (m : CurrentLimits). SmallPhases m.phases) (needed (number_up_to 1) (value_of ps 2)) _ (λ x.
    any-bind (λ (m : CurrentLimits). SmallPhases m.phases) (amount_in most32 (value_of ps 3)) _ (λ d.
    any-bind (λ (m : CurrentLimits). SmallPhases m.phases) (needed (number_up_to 255) (value_of ps 4)) _ (λ k. h))))

-- a command says of a quantity what its field is, or nothing
small_says : (c : Command) → ((q : ℕ) → SmallField (field_at c q)) → SmallCommand c
unfolding says
small_says c h q = small_cond (is_of (kind_of c) q) (field_at c q) Field.Absent (h q) tt

small_command : (c : ℕ) (ps : Pairs) → Every SmallCommand (command_in c ps)
unfolding command_in limits_from setpoints_from
small_command c ps = go (eqb c 1) (eqb c 2) (eqb c 3) (eqb c 4) (eqb c 5)
  where
    aims : (make : Aim → Command) → ((a : Aim) (q : ℕ) → SmallField (field_at (make a) q)) → Every SmallCommand (Option.map make (aim_in (value_of ps 1)))
    aims make h = any-map SmallCommand (aim_in (value_of ps 1)) make (λ a. small_says (make a) (h a))

    go : (x y z u v : Bool) → Every SmallCommand (
        cond x (Option.map (λ s. Command.SetLimit (limits_from s)) (setting_in true ps))
        (cond y (Option.map Command.ClearLimit (aim_in (value_of ps 1)))
        (cond z (Option.map (λ s. Command.SetSetpoint (setpoints_from s)) (setting_in false ps))
        (cond u (Option.map Command.ClearSetpoint (aim_in (value_of ps 1)))
        (cond v (Option.map Command.SetCurrentLimits (current_limits_in ps))
        (Option.map Command.ClearCurrentLimits (aim_in (value_of ps 1))))))))
    go true y z u v =
        every_map SmallSetting SmallCommand (setting_in true ps) (λ s. Command.SetLimit (limits_from s)) (small_setting true ps)
        (λ m h. small_says (Command.SetLimit (limits_from m)) (λ q. small_cond (eqb (direction_of q) 0) m.consumption m.production h.0 h.1))
    go false true z u v = aims Command.ClearLimit (λ a q. small_aim a (direction_of q))
    go false false true u v =
        every_map SmallSetting SmallCommand (setting_in false ps) (λ s. Command.SetSetpoint (setpoints_from s)) (small_setting false ps)
        (λ m h. small_says (Command.SetSetpoint (setpoints_from m)) (λ q.
        small_cond (eqb (direction_of q) 0) (target_field (target_of m.consumption)) (target_field (target_of m.production))
        (small_target m.consumption h.0) (small_target m.production h.1)))
    go false false false true v = aims Command.ClearSetpoint (λ a q. small_aim a (direction_of q))
    go false false false false true =
        every_map (λ (m : CurrentLimits). SmallPhases m.phases) SmallCommand (current_limits_in ps) Command.SetCurrentLimits (small_currents ps)
        (λ m h. small_says (Command.SetCurrentLimits m) (λ q.
        small_cond (eqb (direction_of q) m.direction) (phase_field m.phases (phase_of q)) Field.Absent (small_phase m.phases (phase_of q) h) tt))
    go false false false false false = aims Command.ClearCurrentLimits (λ a q. small_aim a (direction_of q))

pub small_reading : (bytes : List ℕ) → SmallReading (read_request bytes)
unfolding read_request from_payload from_envelope
small_reading bytes = go (framed bytes) (payload_of (payload_in bytes))
  where
    parameters : (v : Envelope) (o : Option Command) → Every SmallCommand o → SmallReading (with_command v o)
    parameters v none h = tt
    parameters v (some c) h = h

    envelope : (o : Option Envelope) → SmallReading (from_envelope o)
    envelope none = tt
    envelope (some v) = served (served_at v.endpoint v.feature && served_command v.command)
      where
        served : (b : Bool) → SmallReading (cond b (with_command v (command_in v.command v.parameters)) (Reading.Unserved v.id))
        served true = parameters v (command_in v.command v.parameters) (small_command v.command v.parameters)
        served false = tt

    go : (b : Bool) (o : Option Item) → SmallReading (cond b (from_payload o) (Reading.Refused 1))
    go false o = tt
    go true none = tt
    go true (some i) = envelope (bind (map_in i) envelope_in)

-- WHAT IS STORED
puts_field : (top v : ℕ) (f : Field) → SmallField f → field_action top f ≡ Action.Put v → v < value_end
unfolding field_action
puts_field top v Field.Absent h e = absurd (let w : ◌≡◌ {A = ℕ} 0 1 = cc in omega arith)
puts_field top v Field.Null h e = absurd (let w : ◌≡◌ {A = ℕ} 0 1 = cc in omega arith)
puts_field top v (Field.Value z) h e = let q : min top (natural z) ≡ v = cc in omega (arith, min-le_right top (natural z))

pub small_action : (s : Settings) (c : Command) (q v : ℕ) → SmallCommand c → action s c q ≡ Action.Put v → v < value_end
unfolding action
small_action s c q v h e = puts_field (top_of s q) v (says c q) (h q) e
