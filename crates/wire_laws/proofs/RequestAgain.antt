-- A request that was read can be written, and is the same bytes. Assumes nothing.
use Rattle.std.specs.Prelude.{None, Some}
use Prim.Native.Nat.{ℕ, ◌+◌, ◌≤◌}
use mathlib.Core.Path.{◌≡◌, refl, sym, ap, subst, ◌∙◌}
use mathlib.Core.Bool.{Bool, true, false, cond, ◌&&◌, ◌||◌}
use mathlib.Core.List.{List, [], ◌∷◌}
use mathlib.Core.Option
use mathlib.Core.Option.{Option, some, none, bind}
use native.Mathlib.Omega.{arith}
use lib.Dec.{leb, ltb, eqb}
use borrow.Author.Tests.{leb-true, eqb-true, eqb-false, ne_eqb, le-ltb}
use Rattle.wire_cbor.specs.Item.{Item, Pairs, payload_of, Ok, OkPairs, levels}
use Rattle.wire_cbor.specs.Find.{value_of}
use Rattle.wire_messages.specs.Numbers.{wire_number}
use Rattle.refusals.specs.Refusals.{first_of}
use Rattle.wire_messages.specs.declared.Field.{Field}
use Rattle.wire_messages.specs.Options.{Aim}
use Rattle.wire_messages.specs.Options.{Amount}
use Rattle.wire_messages.specs.declared.Phases.{Phases}
use Rattle.wire_messages.specs.declared.CurrentLimits.{CurrentLimits}
use Rattle.wire_messages.specs.declared.Command.{Command}
use Rattle.wire_messages.specs.declared.Request.{Request}
use Rattle.wire_prefix.specs.Prefix.{framed, payload_in}
use Rattle.wire_fields.specs.Fields.{present, number_up_to, map_in, needed, most32, value_in, aim_in, amount_in, aim_item, amount_item}
use Rattle.wire_fields.specs.ByPhase.{phases_in}
use Rattle.wire_requests.specs.Settings.{setting_in, duration_of, target_of, limits_from, setpoints_from}
use Rattle.wire_requests.specs.WrittenSettings.{duration_amount, target_field, setting_of_limits, setting_of_setpoints, setting_fields}
use Rattle.wire_requests.specs.Settings.{current_limits_in}
use Rattle.wire_requests.specs.WrittenSettings.{current_limit_fields}
use Rattle.wire_messages.specs.declared.set_parameters.Setting.{Setting}
use Rattle.wire_responses.specs.WrittenResponses.{amount_up_to}
use Rattle.wire_requests.specs.Requests.{Envelope, envelope_in, command_in, with_command, from_envelope, from_payload, read_request}
use Rattle.wire_messages.specs.Numbers.{served_at, served_command}
use Rattle.wire_requests.specs.WrittenRequests.{command_fields, request_fields, request_item, duration_wide, command_wide, aim_wide, is_served, request_wide, request_unserved, request_number}
use Rattle.wire_output.specs.Writing.{item_frame}
use Rattle.wire_laws.specs.RoundTrips.{Field64, Target64, Command64, KeysTo, parameter_keys, omits_zero, PlainRequest, RequestWritable, RequestWritesAgain}
use Rattle.wire_requests.specs.declared.reading.Reading.{Reading}
use Rattle.wire_fields.proofs.Joined.{no_both, and_left, and_right}
use Rattle.wire_laws.proofs.Maps.{OkFields, same_map, no_known}
use Rattle.wire_laws.proofs.FieldsBack.{Allowed, ok_aim}
use Rattle.wire_laws.proofs.FieldsAgain.{same-inside, bind-parts, map-part, uint_again, map-again, aim_again, amount-again, value_again}
use Rattle.wire_laws.proofs.RequestBack.{setting_ascend, setting_ok, current-ascend, request_ascend, request_ok}
use Rattle.wire_laws.proofs.Trips.{item_in, frame-again, value_ok, map-ok}
use Rattle.wire_laws.proofs.PhaseTrips.{held-ok, numbers_again}

-- the last of the commands 1 to 6
past : (n c : ℕ) → n ≤ c → (c ≡ n → ⊥) → n + 1 ≤ c
past n c h e = omega (arith, e)

pub six : (c : ℕ) → (c ≡ 1 → ⊥) → (c ≡ 2 → ⊥) → (c ≡ 3 → ⊥) → (c ≡ 4 → ⊥) → (c ≡ 5 → ⊥) → 1 ≤ c → c ≤ 6 → c ≡ 6
six c a b d e f x y = least c y (past 5 c (past 4 c (past 3 c (past 2 c (past 1 c x a) b) d) e) f)
  where
    least : (c : ℕ) → c ≤ 6 → 6 ≤ c → c ≡ 6
    least c y z = omega arith

-- THE PARAMETERS
-- what was read of a command's parameters, and that they are its fields where no key is unknown and no zero duration is written that the command omits
pub record Again (c : ℕ) (ps : Pairs) (x : Command) : Type 0 where
  pub number : wire_number x ≡ c
  pub served : is_served x ≡ true
  pub range : command_wide x ≡ false
  pub bits : Command64 x
  pub same : (lo d : ℕ) → OkPairs ps lo d → KeysTo (parameter_keys c) ps → (omits_zero c ≡ true → value_of ps 3 ≡ some (Item.uint 0) → ⊥) → present (command_fields x) ≡ ps

-- the same of the parameters of a Set command, which keep their duration as it was written
pub record AgainSet (null : Bool) (ps : Pairs) (s : Setting) : Type 0 where
  pub range : (amount_up_to most32 s.duration ≡ true) × (s.cause ≤ 255)
  pub first : Field64 s.consumption × Allowed null s.consumption
  pub second : Field64 s.production × Allowed null s.production
  pub third : value_of ps 3 ≡ amount_item s.duration
  pub same : (lo d : ℕ) → OkPairs ps lo d → KeysTo 4 ps → present (setting_fields s) ≡ ps

module _ (null : Bool) (ps : Pairs) where
  made : (x y : Field) (a : Amount) (k : ℕ) → value_in null (value_of ps 1) ≡ some x → value_in null (value_of ps 2) ≡ some y → amount_in most32 (value_of ps 3) ≡ some a
      → needed (number_up_to 255) (value_of ps 4) ≡ some k → AgainSet null ps (record { consumption = x; production = y; duration = a; cause = k })
  unfolding setting_fields
  made x y n k ex ey en ek =
      let a = value_again null (value_of ps 1) x ex in
      let b = value_again null (value_of ps 2) y ey in
      let c = amount-again most32 (value_of ps 3) n en in
      let d = uint_again 255 (value_of ps 4) k ek in
      let s : Setting = record { consumption = x; production = y; duration = n; cause = k } in
      record {
        range = (c.1, d.1);
        first = (a.1, a.2);
        second = (b.1, b.2);
        third = c.0;
        same = λ lo dd ok keys.
            same_map ps (setting_fields s) lo dd ok (setting_ascend s) (setting_ok s dd a.1 b.1 c.1 d.1) (a.0, (b.0, (c.0, (d.0, tt))))
            (λ j h. keys j (no_known (setting_fields s) j (refl, (refl, (refl, (refl, tt)))) h));
      }

  pub set-again : (s : Setting) → setting_in null ps ≡ some s → AgainSet null ps s
  unfolding setting_in
  set-again s e =
      let a = bind-parts (value_in null (value_of ps 1)) _ s e in
      let b = bind-parts (value_in null (value_of ps 2)) _ s a.2 in
      let c = bind-parts (amount_in most32 (value_of ps 3)) _ s b.2 in
      let d = bind-parts (needed (number_up_to 255) (value_of ps 4)) _ s c.2 in
      let q : record { consumption = a.0; production = b.0; duration = c.0; cause = d.0 } ≡ s = same-inside d.2 in
      subst (λ (x : Setting). AgainSet null ps x) q (made a.0 b.0 c.0 d.0 a.1 b.1 c.1 d.1)

-- a duration that is not a written zero is the one written again
duration_again : (a : Amount) → (amount_item a ≡ some (Item.uint 0) → ⊥) → duration_amount (duration_of a) ≡ a
unfolding amount_item
duration_again None n = refl
duration_again (Some d) n = rw (ne_eqb d 0 (λ z. n (ap (λ (k : ℕ). some (Item.uint k)) z)))

duration_small : (a : Amount) → amount_up_to most32 a ≡ true → duration_of a ≤ most32
duration_small None h = omega arith
duration_small (Some d) h = leb-true d most32 h

not_wide : (a : Amount) (k : ℕ) → amount_up_to most32 a ≡ true → k ≤ 255 → (ltb most32 (duration_of a) || ltb 255 k) ≡ false
not_wide a k h g = rw (le-ltb most32 (duration_of a) (duration_small a h), le-ltb 255 k g)

not-wide_setpoint : (a : Amount) (k : ℕ) → amount_up_to most32 a ≡ true → k ≤ 255 → (duration_wide a || ltb 255 k) ≡ false
not-wide_setpoint None k h g = rw (le-ltb 255 k g)
not-wide_setpoint (Some d) k h g = rw (le-ltb most32 d (leb-true d most32 h), le-ltb 255 k g)

target_64 : (f : Field) → Field64 f → Target64 (target_of f)
target_64 Field.Absent h = tt
target_64 Field.Null h = tt
target_64 (Field.Value z) h = h

-- without null a field is its target's
same-field : (f : Field) → Allowed false f → target_field (target_of f) ≡ f
same-field Field.Absent h = refl
same-field Field.Null h = absurd (no_both (sym h))
same-field (Field.Value z) h = refl

-- the parameters that are written again are those that were read
same-limits : (s : Setting) → duration_amount (duration_of s.duration) ≡ s.duration → setting_of_limits (limits_from s) ≡ s
unfolding setting_of_limits limits_from
same-limits s e = rw e

same-setpoints : (s : Setting) → Allowed false s.consumption → Allowed false s.production → setting_of_setpoints (setpoints_from s) ≡ s
unfolding setting_of_setpoints setpoints_from
same-setpoints s a b = rw (same-field s.consumption a, same-field s.production b)

-- the parameters of a clear
clear-same : (ps : Pairs) (a : Aim) → value_of ps 1 ≡ aim_item a → (lo d : ℕ) → OkPairs ps lo d → KeysTo 1 ps → OkFields ((1, aim_item a) ∷ []) d → present ((1, aim_item a) ∷ []) ≡ ps
clear-same ps a e lo d ok keys f = same_map ps ((1, aim_item a) ∷ []) lo d ok (omega arith, tt) f (e, tt) (λ j h. keys j (no_known ((1, aim_item a) ∷ []) j (refl, tt) h))

module _ (ps : Pairs) where
  again-limit : (x : Command) → Option.map (λ s. Command.SetLimit (limits_from s)) (setting_in true ps) ≡ some x → Again 1 ps x
  unfolding command_fields command_wide limits_from
  again-limit x e =
      let p = map-part (λ (s : Setting). Command.SetLimit (limits_from s)) (setting_in true ps) x e in
      let s = set-again true ps p.0 p.1 in
      subst (λ (y : Command). Again 1 ps y) p.2
      (record {
        number = refl;
        served = refl;
        range = not_wide p.0.duration p.0.cause s.range.0 s.range.1;
        bits = (s.first.0, s.second.0);
        same = λ lo d ok keys z.
            ap (λ (l : Setting). present (setting_fields l)) (same-limits p.0 (duration_again p.0.duration (λ q. z refl (s.third ∙ q)))) ∙ s.same lo d ok keys;
      })

  again-setpoint : (x : Command) → Option.map (λ s. Command.SetSetpoint (setpoints_from s)) (setting_in false ps) ≡ some x → Again 3 ps x
  unfolding command_fields command_wide setpoints_from
  again-setpoint x e =
      let p = map-part (λ (s : Setting). Command.SetSetpoint (setpoints_from s)) (setting_in false ps) x e in
      let s = set-again false ps p.0 p.1 in
      subst (λ (y : Command). Again 3 ps y) p.2
      (record {
        number = refl;
        served = refl;
        range = not-wide_setpoint p.0.duration p.0.cause s.range.0 s.range.1;
        bits = (target_64 p.0.consumption s.first.0, target_64 p.0.production s.second.0);
        same = λ lo d ok keys z.
            ap (λ (l : Setting). present (setting_fields l)) (same-setpoints p.0 s.first.1 s.second.1)
            ∙ s.same lo d ok keys;
      })

  -- a clear's parameters, whichever it clears
  again-clear : (make : Aim → Command) (c : ℕ) → ((a : Aim) → wire_number (make a) ≡ c) → ((a : Aim) → is_served (make a) ≡ true) → ((a : Aim) → command_wide (make a) ≡ aim_wide a)
      → ((a : Aim) → Command64 (make a)) → ((a : Aim) → command_fields (make a) ≡ (1, aim_item a) ∷ []) → parameter_keys c ≡ 1
      → (x : Command) → Option.map make (aim_in (value_of ps 1)) ≡ some x → Again c ps x
  again-clear make c number served wide bits fields one x e =
      let p = map-part make (aim_in (value_of ps 1)) x e in
      let a = aim_again (value_of ps 1) p.0 p.1 in
      subst (λ (y : Command). Again c ps y) p.2
      (record {
        number = number p.0;
        served = served p.0;
        range = wide p.0 ∙ a.1;
        bits = bits p.0;
        same = λ lo d ok keys z.
            ap present (fields p.0) ∙ clear-same ps p.0 a.0 lo d ok (subst (λ (n : ℕ). KeysTo n ps) one keys) (omega arith, ok_aim p.0 d a.1, tt);
      })

  again-clear_limit : (x : Command) → Option.map Command.ClearLimit (aim_in (value_of ps 1)) ≡ some x → Again 2 ps x
  unfolding command_fields command_wide
  again-clear_limit = again-clear Command.ClearLimit 2 (λ a. refl) (λ a. refl) (λ a. refl) (λ a. tt) (λ a. refl) refl

  again-clear_setpoint : (x : Command) → Option.map Command.ClearSetpoint (aim_in (value_of ps 1)) ≡ some x → Again 4 ps x
  unfolding command_fields command_wide
  again-clear_setpoint = again-clear Command.ClearSetpoint 4 (λ a. refl) (λ a. refl) (λ a. refl) (λ a. tt) (λ a. refl) refl

  again-clear_current : (x : Command) → Option.map Command.ClearCurrentLimits (aim_in (value_of ps 1)) ≡ some x → Again 6 ps x
  unfolding command_fields command_wide
  again-clear_current = again-clear Command.ClearCurrentLimits 6 (λ a. refl) (λ a. refl) (λ a. refl) (λ a. tt) (λ a. refl) refl

  current-made : (f : Phases) (x : ℕ) (n : Amount) (k : ℕ) → phases_in true (value_of ps 1) ≡ some f → needed (number_up_to 1) (value_of ps 2) ≡ some x → amount_in most32 (value_of ps 3) ≡ some n
      → needed (number_up_to 255) (value_of ps 4) ≡ some k → Again 5 ps (Command.SetCurrentLimits (record { phases = f; direction = x; duration = duration_of n; cause = k }))
  unfolding command_fields command_wide current_limit_fields
  current-made f x n k ef ex en ek =
      let a = numbers_again true (value_of ps 1) f ef in
      let b = uint_again 1 (value_of ps 2) x ex in
      let c = amount-again most32 (value_of ps 3) n en in
      let e = uint_again 255 (value_of ps 4) k ek in
      let l : CurrentLimits = record { phases = f; direction = x; duration = duration_of n; cause = k } in
      record {
        number = refl;
        served = refl;
        range = rw (le-ltb 1 x b.1) (not_wide n k c.1 e.1);
        bits = a.bits;
        same = λ lo d ok keys z.
            let p = a.same d (held-ok ps lo d 1 _ ok refl) in
            let t = c.0 ∙ ap amount_item (sym (duration_again n (λ q. z refl (c.0 ∙ q)))) in
            same_map ps (current_limit_fields l) lo d ok (current-ascend l)
            (omega arith, held-ok ps lo d 1 _ ok p, (omega arith, held-ok ps lo d 2 _ ok b.0, (omega arith, held-ok ps lo d 3 _ ok t, (omega arith, held-ok ps lo d 4 _ ok e.0, tt))))
            (p, (b.0, (t, (e.0, tt)))) (λ j h. keys j (no_known (current_limit_fields l) j (refl, (refl, (refl, (refl, tt)))) h));
      }

  again-current : (x : Command) → Option.map Command.SetCurrentLimits (current_limits_in ps) ≡ some x → Again 5 ps x
  unfolding current_limits_in
  again-current x e =
      let p = map-part Command.SetCurrentLimits (current_limits_in ps) x e in
      let a = bind-parts (phases_in true (value_of ps 1)) _ p.0 p.1 in
      let b = bind-parts (needed (number_up_to 1) (value_of ps 2)) _ p.0 a.2 in
      let c = bind-parts (amount_in most32 (value_of ps 3)) _ p.0 b.2 in
      let d = bind-parts (needed (number_up_to 255) (value_of ps 4)) _ p.0 c.2 in
      subst (λ (y : Command). Again 5 ps y) (ap Command.SetCurrentLimits (same-inside d.2) ∙ p.2) (current-made a.0 b.0 c.0 d.0 a.1 b.1 c.1 d.1)

  pub command_again : (c : ℕ) (x : Command) → served_command c ≡ true → command_in c ps ≡ some x → Again c ps x
  unfolding served_command command_in
  command_again c x s e = go (eqb c 1) (eqb c 2) (eqb c 3) (eqb c 4) (eqb c 5) refl refl refl refl refl e
    where
      at : (n : ℕ) → c ≡ n → Again n ps x → Again c ps x
      at n e h = subst (λ (m : ℕ). Again m ps x) (sym e) h

      go : (p q r t u : Bool) → eqb c 1 ≡ p → eqb c 2 ≡ q → eqb c 3 ≡ r → eqb c 4 ≡ t → eqb c 5 ≡ u
          → cond p (Option.map (λ s. Command.SetLimit (limits_from s)) (setting_in true ps))
          (cond q (Option.map Command.ClearLimit (aim_in (value_of ps 1)))
          (cond r (Option.map (λ s. Command.SetSetpoint (setpoints_from s)) (setting_in false ps))
          (cond t (Option.map Command.ClearSetpoint (aim_in (value_of ps 1)))
          (cond u (Option.map Command.SetCurrentLimits (current_limits_in ps)) (Option.map Command.ClearCurrentLimits (aim_in (value_of ps 1))))))) ≡ some x
          → Again c ps x
      go true q r t u a b d f g h = at 1 (eqb-true c 1 a) (again-limit x h)
      go false true r t u a b d f g h = at 2 (eqb-true c 2 b) (again-clear_limit x h)
      go false false true t u a b d f g h = at 3 (eqb-true c 3 d) (again-setpoint x h)
      go false false false true u a b d f g h = at 4 (eqb-true c 4 f) (again-clear_setpoint x h)
      go false false false false true a b d f g h = at 5 (eqb-true c 5 g) (again-current x h)
      go false false false false false a b d f g h =
          let l = leb-true 1 c (and_left _ _ s) in
          let m = leb-true c 6 (and_right (leb 1 c) _ s) in
          at 6 (six c (eqb-false c 1 a) (eqb-false c 2 b) (eqb-false c 3 d) (eqb-false c 4 f) (eqb-false c 5 g) l m) (again-clear_current x h)

-- THE ENVELOPE
pub record AgainEnvelope (ps : Pairs) (e : Envelope) : Type 0 where
  pub first : (value_of ps 1 ≡ some (Item.uint e.id)) × (e.id ≤ most32)
  pub second : (value_of ps 2 ≡ some (Item.uint e.endpoint)) × (e.endpoint ≤ 255)
  pub third : (value_of ps 3 ≡ some (Item.uint e.feature)) × (e.feature ≤ 65535)
  pub fourth : (value_of ps 4 ≡ some (Item.uint e.command)) × (e.command ≤ 65535)
  pub fifth : value_of ps 5 ≡ some (Item.map e.parameters)

envelope_again : (ps : Pairs) (e : Envelope) → envelope_in ps ≡ some e → AgainEnvelope ps e
unfolding envelope_in
envelope_again ps e h =
    let a = bind-parts (needed (number_up_to most32) (value_of ps 1)) _ e h in
    let b = bind-parts (needed (number_up_to 255) (value_of ps 2)) _ e a.2 in
    let c = bind-parts (needed (number_up_to 65535) (value_of ps 3)) _ e b.2 in
    let d = bind-parts (needed (number_up_to 65535) (value_of ps 4)) _ e c.2 in
    let m = bind-parts (needed map_in (value_of ps 5)) _ e d.2 in
    subst (λ (x : Envelope). AgainEnvelope ps x) (same-inside m.2)
    (record {
      first = uint_again most32 (value_of ps 1) a.0 a.1;
      second = uint_again 255 (value_of ps 2) b.0 b.1;
      third = uint_again 65535 (value_of ps 3) c.0 c.1;
      fourth = uint_again 65535 (value_of ps 4) d.0 d.1;
      fifth = map-again (value_of ps 5) m.0 m.1;
    })

-- THE MESSAGE
abbrev request_of : Envelope → Command → Request
request_of e c = record { id = e.id; endpoint = e.endpoint; feature = e.feature; command = c }

-- what a request that was read was read from
pub record ReadFrom (ps : Pairs) (r : Request) : Type 0 where
  pub env : Envelope
  pub command : Command
  pub parts : AgainEnvelope ps env
  pub at : served_at env.endpoint env.feature ≡ true
  pub again : Again env.command env.parameters command
  pub is : request_of env command ≡ r

no_reading : {r : Request} (x : Reading) → x ≡ Reading.Is r → (n : ℕ) → x ≡ Reading.Refused n → ⊥
no_reading x e n f = let z : ◌≡◌ {A = ℕ} 0 1 = cc in omega arith

message_again : (ps : Pairs) (r : Request) → from_envelope (envelope_in ps) ≡ Reading.Is r → ReadFrom ps r
unfolding from_envelope
message_again ps r h = go (envelope_in ps) refl h
  where
    with_one : (e : Envelope) → envelope_in ps ≡ some e → (served_at e.endpoint e.feature && served_command e.command) ≡ true → (o : Option Command)
        → command_in e.command e.parameters ≡ o → with_command e o ≡ Reading.Is r → ReadFrom ps r
    with_one e q s (some c) x y =
        record {
          env = e;
          command = c;
          parts = envelope_again ps e q;
          at = and_left _ _ s;
          again = command_again e.parameters e.command c (and_right (served_at e.endpoint e.feature) _ s) x;
          is = cc;
        }
    with_one e q s none x y = absurd (no_reading _ y 3 refl)

    served_one : (e : Envelope) → envelope_in ps ≡ some e → (b : Bool) → (served_at e.endpoint e.feature && served_command e.command) ≡ b
        → cond b (with_command e (command_in e.command e.parameters)) (Reading.Unserved e.id) ≡ Reading.Is r → ReadFrom ps r
    served_one e q true s y = with_one e q s (command_in e.command e.parameters) refl y
    served_one e q false s y = absurd (let z : ◌≡◌ {A = ℕ} 0 1 = cc in omega arith)

    go : (o : Option Envelope) → envelope_in ps ≡ o → from_envelope o ≡ Reading.Is r → ReadFrom ps r
    go (some e) q y = served_one e q (served_at e.endpoint e.feature && served_command e.command) refl y
    go none q y = absurd (no_reading _ y 3 refl)

-- THE FRAME
pub record Read (frame : List ℕ) (r : Request) : Type 0 where
  pub prefix : framed frame ≡ true
  pub item : Item
  pub pairs : Pairs
  pub payload : payload_of (payload_in frame) ≡ some item
  pub map : map_in item ≡ some pairs
  pub from : ReadFrom pairs r

request_read : (frame : List ℕ) (r : Request) → read_request frame ≡ Reading.Is r → Read frame r
unfolding read_request from_payload bind from_envelope
request_read frame r h = go (framed frame) refl h
  where
    in_map_lem : (i : Item) → payload_of (payload_in frame) ≡ some i → framed frame ≡ true → (o : Option Pairs) → map_in i ≡ o → from_envelope (bind o envelope_in) ≡ Reading.Is r → Read frame r
    in_map_lem i q f (some m) x y = record { prefix = f; item = i; pairs = m; payload = q; map = x; from = message_again m r y }
    in_map_lem i q f none x y = absurd (no_reading _ y 3 refl)

    in_item : (o : Option Item) → payload_of (payload_in frame) ≡ o → framed frame ≡ true → from_payload o ≡ Reading.Is r → Read frame r
    in_item (some i) q f y = in_map_lem i q f (map_in i) refl y
    in_item none q f y = absurd (no_reading _ y 2 refl)

    go : (b : Bool) → framed frame ≡ b → cond b (from_payload (payload_of (payload_in frame))) (Reading.Refused 1) ≡ Reading.Is r → Read frame r
    go true f y = in_item (payload_of (payload_in frame)) refl f y
    go false f y = absurd (no_reading _ y 1 refl)

writable : (ps : Pairs) (r : Request) → ReadFrom ps r → Command64 r.command × (request_number r ≡ 0)
unfolding request_number request_wide request_unserved first_of
writable ps r f =
    let p = f.parts in
    subst (λ (x : Request). Command64 x.command × (request_number x ≡ 0)) f.is (
      f.again.bits,
      rw (
        le-ltb most32 f.env.id p.first.1,
        le-ltb 255 f.env.endpoint p.second.1,
        le-ltb 65535 f.env.feature p.third.1,
        f.again.range,
        f.at,
        f.again.served,
      ),
    )

pub request-writable : RequestWritable
request-writable frame r h = let x = request_read frame r h in writable x.pairs r x.from

same-request : (ps : Pairs) (r : Request) → ReadFrom ps r → Ok (Item.map ps) levels → PlainRequest ps → request_item r ≡ Item.map ps
unfolding request_item request_fields
same-request ps r f ok plain =
    let p = f.parts in
    let e = f.env in
    let c = f.command in
    let a = f.again in
    let okp : OkPairs ps 0 7 = map-ok ps 7 ok in
    let k = plain.parameters e.command e.parameters p.fourth.0 p.fifth in
    let s : present (command_fields c) ≡ e.parameters = a.same 0 6 (map-ok e.parameters 6 (value_ok ps 0 7 5 (Item.map e.parameters) okp p.fifth)) k.0 k.1 in
    let w : wire_number c ≤ 65535 = omega (arith, a.number, p.fourth.1) in
    subst (λ (x : Request). request_item x ≡ Item.map ps) f.is
    (ap Item.map
    (same_map ps (request_fields (request_of e c)) 0 7 okp (request_ascend (request_of e c)) (request_ok (request_of e c) p.first.1 p.second.1 p.third.1 w a.range a.bits)
    (p.first.0, (p.second.0, (p.third.0, (p.fourth.0 ∙ ap (λ (n : ℕ). some (Item.uint n)) (sym a.number), (p.fifth ∙ ap (λ (m : Pairs). some (Item.map m)) (sym s), tt)))))
    (λ j h. plain.envelope j (no_known (request_fields (request_of e c)) j (refl, (refl, (refl, (refl, (refl, tt))))) h))))

pub request_writes_again : RequestWritesAgain
unfolding map_in
request_writes_again frame ok r ps h it plain =
    let x = request_read frame r h in
    let i : x.item ≡ Item.map ps = same-inside (sym x.payload ∙ it) in
    let m : x.pairs ≡ ps = same-inside (sym x.map ∙ ap map_in i) in
    let f : ReadFrom ps r = subst (λ (q : Pairs). ReadFrom q r) m x.from in
    ap item_frame (same-request ps r f (item_in frame ok (Item.map ps) it).0 plain) ∙ frame-again frame ok (Item.map ps) it x.prefix
