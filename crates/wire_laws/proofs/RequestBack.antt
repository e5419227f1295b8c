-- A request that is written reads back equal. Assumes nothing.
use Rattle.std.specs.Prelude.{None, Some}
use Prim.Native.Nat.{ℕ, suc, ◌^◌, ◌≤◌, ◌<◌}
use mathlib.Core.Path.{◌≡◌, refl, sym, ap, ◌∙◌}
use mathlib.Core.Bool.{Bool, true, false, cond, ◌&&◌, ◌||◌}
use mathlib.Core.List.{[], ◌∷◌}
use mathlib.Core.Option.{some, bind}
use native.Mathlib.Omega.{arith}
use lib.ListN.{length, length-append}
use lib.Dec.{ltb, eqb}
use borrow.Author.Tests.{ltb-false, eqb-true, le-leb}
use Rattle.wire_cbor.specs.Item.{Item, Ok, encode, levels}
use Rattle.wire_heads.proofs.Widths.{head-length, head-short}
use Rattle.wire_messages.specs.Numbers.{wire_number}
use Rattle.refusals.specs.Refusals.{first_of}
use Rattle.wire_messages.specs.declared.Field.{Field}
use Rattle.wire_messages.specs.Options.{Target}
use Rattle.wire_messages.specs.Options.{Amount}
use Rattle.wire_messages.specs.declared.Limits.{Limits}
use Rattle.wire_messages.specs.declared.Setpoints.{Setpoints}
use Rattle.wire_messages.specs.declared.CurrentLimits.{CurrentLimits}
use Rattle.wire_messages.specs.declared.Command.{Command}
use Rattle.wire_messages.specs.declared.Request.{Request}
use Rattle.wire_fields.specs.Fields.{present, map_in, needed, most32, aim_item}
use Rattle.wire_requests.specs.Settings.{setting_in, duration_of, target_of, limits_from, setpoints_from}
use Rattle.wire_requests.specs.WrittenSettings.{duration_amount, target_field, setting_of_limits, setting_of_setpoints, setting_fields}
use Rattle.wire_requests.specs.Settings.{current_limits_in}
use Rattle.wire_requests.specs.WrittenSettings.{current_limit_fields}
use Rattle.wire_messages.specs.declared.set_parameters.Setting.{Setting}
use Rattle.wire_responses.specs.WrittenResponses.{amount_up_to}
use Rattle.wire_requests.specs.Requests.{envelope_in, command_in, from_envelope, read_request}
use Rattle.wire_messages.specs.Numbers.{served_at, served_command}
use Rattle.wire_requests.specs.WrittenRequests.{command_fields, request_fields, request_item, duration_wide, command_wide, is_served, request_wide, request_unserved, request_number}
use Rattle.wire_fields.specs.Puts.{field_bytes}
use Rattle.wire_output.specs.Writing.{item_frame}
use Rattle.wire_laws.specs.RoundTrips.{Field64, Target64, Phases64, Command64, RequestReadsBack, OneRequest}
use Rattle.wire_requests.specs.declared.reading.Reading.{Reading}
use Rattle.wire_fields.proofs.Joined.{no_both, and_left, and_right, or_left, or_right, not-is_false}
use Rattle.wire_laws.proofs.Maps.{Ascending, values, OkFields, ShortFields, ok_map, map-short}
use Rattle.wire_laws.proofs.FieldsBack.{Allowed, uint_back, aim_back, amount-back, value_back, ok_uint, ok_aim, ok_amount, ok_value, short_uint, short_aim, short_amount, short_value}
use Rattle.wire_requests.proofs.Requested.{read_map_of}
use Rattle.wire_laws.proofs.Trips.{frame-payload, frame-framed}
use Rattle.wire_laws.proofs.PhaseTrips.{few_short, short_numbers, ok_numbers, numbers_back}

-- THE PARAMETERS OF A SET COMMAND
module _ (s : Setting) where
  pub setting_ascend : Ascending (setting_fields s) 0
  unfolding setting_fields
  setting_ascend = (omega arith, (omega arith, (omega arith, (omega arith, tt))))

  pub setting_ok : (d : ℕ) → Field64 s.consumption → Field64 s.production → amount_up_to most32 s.duration ≡ true → s.cause ≤ 255 → OkFields (setting_fields s) d
  unfolding setting_fields
  setting_ok d a b x y = (
    omega arith,
    ok_value s.consumption d a,
    (
      omega arith,
      ok_value s.production d b,
      (omega arith, ok_amount most32 s.duration d (omega arith) x, (omega arith, ok_uint s.cause d (omega arith), tt)),
    ),
  )

  setting_short : ShortFields (setting_fields s) 18
  unfolding setting_fields
  setting_short = (short_value 1 s.consumption, (short_value 2 s.production, (short_amount 3 s.duration, (short_uint 4 s.cause, tt))))

  setting_back : (null : Bool) → Allowed null s.consumption → Allowed null s.production → Field64 s.consumption → Field64 s.production
      → amount_up_to most32 s.duration ≡ true → s.cause ≤ 255 → setting_in null (present (setting_fields s)) ≡ some s
  unfolding setting_in bind setting_fields
  setting_back null p q a b x y =
      let v : (k : ℕ) → _ = λ (k : ℕ). values (setting_fields s) 0 k setting_ascend in
      rw (v 1, v 2, v 3, v 4, value_back null s.consumption p a, value_back null s.production q b, amount-back most32 s.duration x, uint_back 255 s.cause y)

-- a duration, written and read
pub duration_range : (d : ℕ) → d ≤ most32 → amount_up_to most32 (duration_amount d) ≡ true
duration_range d h = go (eqb d 0)
  where
    go : (b : Bool) → amount_up_to most32 (cond b None (Some d)) ≡ true
    go true = refl
    go false = le-leb d most32 h

same-duration : (d : ℕ) → duration_of (duration_amount d) ≡ d
same-duration d = go (eqb d 0) refl
  where
    go : (b : Bool) → eqb d 0 ≡ b → duration_of (cond b None (Some d)) ≡ d
    go true e = sym (eqb-true d 0 e)
    go false e = refl

same-limits : (l : Limits) → limits_from (setting_of_limits l) ≡ l
unfolding limits_from setting_of_limits
same-limits l = rw (same-duration l.duration)

allowed-target : (t : Target) → Allowed false (target_field t)
allowed-target None = tt
allowed-target (Some z) = tt

pub field-64 : (t : Target) → Target64 t → Field64 (target_field t)
field-64 None h = tt
field-64 (Some z) h = h

same_target : (t : Target) → target_of (target_field t) ≡ t
same_target None = refl
same_target (Some z) = refl

same-setpoints : (l : Setpoints) → setpoints_from (setting_of_setpoints l) ≡ l
unfolding setpoints_from setting_of_setpoints
same-setpoints l = rw (same_target l.consumption, same_target l.production)

allowed_all : (f : Field) → Allowed true f
allowed_all Field.Absent = tt
allowed_all Field.Null = refl
allowed_all (Field.Value z) = tt

-- THE PARAMETERS OF SETCURRENTLIMITS
pub wide_parts : (d k : ℕ) → (ltb most32 d || ltb 255 k) ≡ false → (d ≤ most32) × (k ≤ 255)
wide_parts d k h = (ltb-false most32 d (or_left _ _ h), ltb-false 255 k (or_right (ltb most32 d) _ h))

duration_in : (a : Amount) → duration_wide a ≡ false → amount_up_to most32 a ≡ true
duration_in None h = refl
duration_in (Some d) h = le-leb d most32 (ltb-false most32 d h)

pub wide_setpoints : (a : Amount) (k : ℕ) → (duration_wide a || ltb 255 k) ≡ false → (amount_up_to most32 a ≡ true) × (k ≤ 255)
wide_setpoints a k h = (duration_in a (or_left _ _ h), ltb-false 255 k (or_right (duration_wide a) _ h))

pub wide_currents : (x d k : ℕ) → (ltb 1 x || (ltb most32 d || ltb 255 k)) ≡ false → (x ≤ 1) × (d ≤ most32) × (k ≤ 255)
wide_currents x d k h = let w = wide_parts d k (or_right (ltb 1 x) _ h) in (ltb-false 1 x (or_left _ _ h), w.0, w.1)

module _ (l : CurrentLimits) where
  pub current-ascend : Ascending (current_limit_fields l) 0
  unfolding current_limit_fields
  current-ascend = (omega arith, (omega arith, (omega arith, (omega arith, tt))))

  current-short : ShortFields (current_limit_fields l) 72
  unfolding current_limit_fields
  current-short = (
    short_numbers l.phases 1,
    (omega (arith, short_uint 2 l.direction), (omega (arith, short_amount 3 (duration_amount l.duration)), (omega (arith, short_uint 4 l.cause), tt))),
  )

  module _ (h : Phases64 l.phases) (w : (l.direction ≤ 1) × (l.duration ≤ most32) × (l.cause ≤ 255)) where
    current-ok : (d : ℕ) → OkFields (current_limit_fields l) (suc d)
    unfolding current_limit_fields
    current-ok d = (
      omega arith,
      ok_numbers l.phases h d,
      (
        omega arith,
        ok_uint l.direction (suc d) (omega (arith, w.0)),
        (
          omega arith,
          ok_amount most32 (duration_amount l.duration) (suc d) (omega arith) (duration_range l.duration w.1),
          (omega arith, ok_uint l.cause (suc d) (omega (arith, w.2)), tt),
        ),
      ),
    )

    current-back : current_limits_in (present (current_limit_fields l)) ≡ some l
    unfolding current_limits_in bind current_limit_fields
    current-back =
        let p = l.phases in
        let v : (k : ℕ) → _ = λ (k : ℕ). values (current_limit_fields l) 0 k current-ascend in
        rw (
          v 1,
          v 2,
          v 3,
          v 4,
          numbers_back p h true (allowed_all p.a, allowed_all p.b, allowed_all p.c),
          uint_back 1 l.direction w.0,
          amount-back most32 (duration_amount l.duration) (duration_range l.duration w.1),
          uint_back 255 l.cause w.2,
          same-duration l.duration,
        )

-- THE PARAMETERS OF EACH COMMAND
pub command_ascend : (c : Command) → Ascending (command_fields c) 0
unfolding command_fields
command_ascend (Command.SetLimit l) = setting_ascend (setting_of_limits l)
command_ascend (Command.ClearLimit a) = (omega arith, tt)
command_ascend (Command.SetSetpoint l) = setting_ascend (setting_of_setpoints l)
command_ascend (Command.ClearSetpoint a) = (omega arith, tt)
command_ascend (Command.SetCurrentLimits l) = current-ascend l
command_ascend (Command.ClearCurrentLimits a) = (omega arith, tt)
command_ascend (Command.Unserved n) = tt

pub command_ok : (c : Command) (d : ℕ) → command_wide c ≡ false → Command64 c → OkFields (command_fields c) (suc d)
unfolding command_fields command_wide setting_of_limits setting_of_setpoints
command_ok (Command.SetLimit l) d w h =
    let x = wide_parts l.duration l.cause w in
    setting_ok (setting_of_limits l) (suc d) h.0 h.1 (duration_range l.duration x.0) x.1
command_ok (Command.ClearLimit a) d w h = (omega arith, ok_aim a (suc d) w, tt)
command_ok (Command.SetSetpoint l) d w h =
    let x = wide_setpoints l.duration l.cause w in
    setting_ok (setting_of_setpoints l) (suc d) (field-64 l.consumption h.0) (field-64 l.production h.1) x.0 x.1
command_ok (Command.ClearSetpoint a) d w h = (omega arith, ok_aim a (suc d) w, tt)
command_ok (Command.SetCurrentLimits l) d w h = current-ok l h (wide_currents l.direction l.duration l.cause w) d
command_ok (Command.ClearCurrentLimits a) d w h = (omega arith, ok_aim a (suc d) w, tt)
command_ok (Command.Unserved n) d w h = tt

command_short : (c : Command) → ShortFields (command_fields c) 72
unfolding command_fields
command_short (Command.SetLimit l) = few_short (setting_fields (setting_of_limits l)) (setting_short (setting_of_limits l))
command_short (Command.ClearLimit a) = few_short ((1, aim_item a) ∷ []) (short_aim 1 a, tt)
command_short (Command.SetSetpoint l) = few_short (setting_fields (setting_of_setpoints l)) (setting_short (setting_of_setpoints l))
command_short (Command.ClearSetpoint a) = few_short ((1, aim_item a) ∷ []) (short_aim 1 a, tt)
command_short (Command.SetCurrentLimits l) = current-short l
command_short (Command.ClearCurrentLimits a) = few_short ((1, aim_item a) ∷ []) (short_aim 1 a, tt)
command_short (Command.Unserved n) = tt

pub command_few : (c : Command) → length (command_fields c) ≤ 4
unfolding command_fields setting_fields current_limit_fields
command_few (Command.SetLimit l) = omega arith
command_few (Command.ClearLimit a) = omega arith
command_few (Command.SetSetpoint l) = omega arith
command_few (Command.ClearSetpoint a) = omega arith
command_few (Command.SetCurrentLimits l) = omega arith
command_few (Command.ClearCurrentLimits a) = omega arith
command_few (Command.Unserved n) = omega arith

command_back : (c : Command) → is_served c ≡ true → command_wide c ≡ false → Command64 c → command_in (wire_number c) (present (command_fields c)) ≡ some c
unfolding command_in command_fields command_wide setting_of_limits setting_of_setpoints
command_back (Command.SetLimit l) s w h =
    let x = wide_parts l.duration l.cause w in
    rw (setting_back (setting_of_limits l) true (allowed_all l.consumption) (allowed_all l.production) h.0 h.1 (duration_range l.duration x.0) x.1, same-limits l)
command_back (Command.ClearLimit a) s w h = rw (values ((1, aim_item a) ∷ []) 0 1 (omega arith, tt), aim_back a w)
command_back (Command.SetSetpoint l) s w h =
    let x = wide_setpoints l.duration l.cause w in
    rw (
      setting_back (setting_of_setpoints l) false (allowed-target l.consumption) (allowed-target l.production)
          (field-64 l.consumption h.0) (field-64 l.production h.1) x.0 x.1,
      same-setpoints l,
    )
command_back (Command.ClearSetpoint a) s w h = rw (values ((1, aim_item a) ∷ []) 0 1 (omega arith, tt), aim_back a w)
command_back (Command.SetCurrentLimits l) s w h = rw (current-back l h (wide_currents l.direction l.duration l.cause w))
command_back (Command.ClearCurrentLimits a) s w h = rw (values ((1, aim_item a) ∷ []) 0 1 (omega arith, tt), aim_back a w)
command_back (Command.Unserved n) s w h = absurd (no_both (sym s))

pub wire_served : (c : Command) → is_served c ≡ true → (wire_number c ≤ 6) × (served_command (wire_number c) ≡ true)
unfolding served_command
wire_served (Command.SetLimit l) s = (omega arith, refl)
wire_served (Command.ClearLimit a) s = (omega arith, refl)
wire_served (Command.SetSetpoint l) s = (omega arith, refl)
wire_served (Command.ClearSetpoint a) s = (omega arith, refl)
wire_served (Command.SetCurrentLimits l) s = (omega arith, refl)
wire_served (Command.ClearCurrentLimits a) s = (omega arith, refl)
wire_served (Command.Unserved n) s = absurd (no_both (sym s))

-- THE REQUEST
pub no_test : (a b : Bool) → first_of ((a, 3) ∷ (b, 4) ∷ []) ≡ 0 → (a ≡ false) × (b ≡ false)
unfolding first_of
no_test true b e = absurd (let z : ◌≡◌ {A = ℕ} 3 0 = e in omega arith)
no_test false true e = absurd (let z : ◌≡◌ {A = ℕ} 4 0 = e in omega arith)
no_test false false e = (refl, refl)

module _ (r : Request) where
  pub request_ascend : Ascending (request_fields r) 0
  unfolding request_fields
  request_ascend = (omega arith, (omega arith, (omega arith, (omega arith, (omega arith, tt)))))

  pub request_ok : r.id ≤ most32 → r.endpoint ≤ 255 → r.feature ≤ 65535 → wire_number r.command ≤ 65535 → command_wide r.command ≡ false → Command64 r.command → OkFields (request_fields r) 7
  unfolding request_fields
  request_ok a b c d w h = (
    omega arith,
    ok_uint r.id 7 (omega arith),
    (
      omega arith,
      ok_uint r.endpoint 7 (omega arith),
      (
        omega arith,
        ok_uint r.feature 7 (omega arith),
        (
          omega arith,
          ok_uint (wire_number r.command) 7 (omega arith),
          (omega arith, ok_map (command_fields r.command) 6 (omega (arith, command_few r.command)) (command_ascend r.command) (command_ok r.command 5 w h), tt),
        ),
      ),
    ),
  )

  pub request_few : length (request_fields r) < 2 ^ 64
  unfolding request_fields
  request_few = omega arith

  inner_short : length (field_bytes 5 (some (Item.map (present (command_fields r.command))))) ≤ 306
  unfolding field_bytes
  inner_short =
      let c = command_fields r.command in
      rw length-append (omega (arith, head-length 0 5, head-short 5, (map-short c 72 (command_short r.command)).1, command_few r.command))

  request_short : (1 ≤ length (encode (request_item r))) × (length (encode (request_item r)) ≤ 1539)
  unfolding request_item request_fields
  request_short =
      let h : ShortFields (request_fields r) 306 = (
        omega (arith, short_uint 1 r.id),
        (omega (arith, short_uint 2 r.endpoint), (omega (arith, short_uint 3 r.feature), (omega (arith, short_uint 4 (wire_number r.command)), (inner_short, tt)))),
      ) in
      map-short (request_fields r) 306 h

  module _ (e : request_number r ≡ 0) where
    parts : (request_wide r ≡ false) × (request_unserved r ≡ false)
    unfolding request_number
    parts = no_test (request_wide r) (request_unserved r) e

    pub request_ranges : (r.id ≤ most32) × (r.endpoint ≤ 255) × (r.feature ≤ 65535) × (command_wide r.command ≡ false)
    unfolding request_wide
    request_ranges =
        let w = parts.0 in (
          ltb-false most32 r.id (or_left _ _ (or_left _ _ (or_left _ _ w))),
          ltb-false 255 r.endpoint (or_right (ltb most32 r.id) _ (or_left _ _ (or_left _ _ w))),
          ltb-false 65535 r.feature (or_right (ltb most32 r.id || ltb 255 r.endpoint) _ (or_left _ _ w)),
          or_right (ltb most32 r.id || ltb 255 r.endpoint || ltb 65535 r.feature) _ w,
        )

    pub request_served : (served_at r.endpoint r.feature && is_served r.command) ≡ true
    unfolding request_unserved
    request_served = not-is_false _ parts.1

    pub is-served : is_served r.command ≡ true
    is-served = and_right (served_at r.endpoint r.feature) _ request_served

  module _ (h : Command64 r.command) (e : request_number r ≡ 0) where
    item_ok : Ok (request_item r) levels
    unfolding request_item
    item_ok =
        ok_map (request_fields r) 7 request_few request_ascend (request_ok (request_ranges e).0 (request_ranges e).1 (request_ranges e).2 (omega (
          arith,
          (wire_served r.command (is-served e)).0,
        )) (request_ranges e).3 h)

    envelope_back : envelope_in (present (request_fields r))
        ≡ some (record { id = r.id; endpoint = r.endpoint; feature = r.feature; command = wire_number r.command; parameters = present (command_fields r.command) })
    unfolding envelope_in bind request_fields needed map_in
    envelope_back =
        let v : (k : ℕ) → _ = λ (k : ℕ). values (request_fields r) 0 k request_ascend in
        rw (
          v 1,
          v 2,
          v 3,
          v 4,
          v 5,
          uint_back most32 r.id (request_ranges e).0,
          uint_back 255 r.endpoint (request_ranges e).1,
          uint_back 65535 r.feature (request_ranges e).2,
          uint_back 65535 (wire_number r.command) (omega (arith, (wire_served r.command (is-served e)).0)),
        )

    message_back : from_envelope (envelope_in (present (request_fields r))) ≡ Reading.Is r
    unfolding from_envelope
    message_back = rw (
      envelope_back,
      and_left (served_at r.endpoint r.feature) (is_served r.command) (request_served e),
      (wire_served r.command (is-served e)).1,
      command_back r.command (is-served e) (request_ranges e).3 h,
    )

pub request_reads_back : RequestReadsBack
unfolding map_in request_item
request_reads_back r h e =
    let s = request_short r in
    read_map_of (item_frame (request_item r)) (request_item r) (present (request_fields r)) (frame-framed (request_item r) s.0 (omega (arith, s.1))) (frame-payload (request_item r) (item_ok r h e)) refl
    ∙ message_back r h e

pub one_request : OneRequest
one_request r q hr hq er eq same =
    let a = request_reads_back r hr er in
    let b = request_reads_back q hq eq in
    let c = ap read_request same in
    let d : Reading.Is r ≡ Reading.Is q = sym a ∙ c ∙ b in cc
