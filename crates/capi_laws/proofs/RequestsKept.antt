-- A request made flat and taken back: its fields one by one, and its command by its number.
use Rattle.std.specs.Prelude.{None, Some}
use Prim.Native.Nat.{ℕ}
use mathlib.Core.Path.{◌≡◌, refl, ap}
use mathlib.Core.Bool.{Bool, true, false, cond, not, ◌&&◌}
use native.Mathlib.Omega.{arith}
use lib.Dec.{eqb}
use borrow.Author.Tests.{eqb-true}
use Rattle.wire_messages.specs.declared.Field.{Field}
use Rattle.wire_messages.specs.Options.{Target}
use Rattle.wire_messages.specs.Options.{Aim}
use Rattle.wire_messages.specs.Options.{Amount}
use Rattle.wire_messages.specs.declared.CurrentLimits.{CurrentLimits}
use Rattle.wire_messages.specs.declared.Command.{Command}
use Rattle.wire_messages.specs.declared.Request.{Request}
use Rattle.refusals.specs.Refusals.{first_of}
use Rattle.wire_requests.specs.WrittenRequests.{is_served, request_wide, request_unserved, request_number}
use Rattle.wire_messages.specs.Numbers.{served_at}
use Rattle.wire_requests.specs.declared.reading.Reading.{Reading}
use Rattle.wire_laws.proofs.RequestBack.{request_reads_back}
use Rattle.wire_laws.proofs.RequestAgain.{request-writable}
use Rattle.capi_fields.specs.Fields.{field_of, target_of, aim_of, setpoint_time, limit_kind, setpoint_kind, flat_field, flat_target, has_aim, aimed, time_of, is_omitted}
use Rattle.capi_messages.specs.Requests.{limits_of, setpoints_of, phases_of, currents_of, current_command, command_of, request_of, flat_set, flat_currents, flat_clear, flat_request}
use Rattle.capi_messages.specs.Requests.{request_in, request_words, request_values}
use Rattle.capi_messages.proofs.Made.{made}
use Rattle.capi.specs.Requests.{request_words_after, request_values_after}
use Rattle.capi_laws.proofs.Marks.{mark_kept}
use Rattle.capi_laws.specs.Inverse.{RequestKept, ReadPlain, RequestInWords, FlatReadsBack, RequestRefusedWhole, SetpointZeroWritten, SetpointOmitted, OmissionPassedOver}

field-kept : (f : Field) → field_of (flat_field f) ≡ f
unfolding field_of flat_field
field-kept Field.Absent = refl
field-kept Field.Null = refl
field-kept (Field.Value v) = refl

target_kept : (f : Target) → target_of (flat_target f) ≡ f
unfolding target_of flat_target
target_kept None = refl
target_kept (Some v) = refl

aim_kept : (a : Aim) → aim_of (has_aim a) (aimed a) ≡ a
unfolding aim_of
aim_kept None = refl
aim_kept (Some d) = refl

time_kept : (a : Amount) → setpoint_time (is_omitted a) (time_of a) ≡ a
unfolding setpoint_time
time_kept None = refl
time_kept (Some d) = refl

field-kind : (f : Field) → limit_kind (flat_field f).kind ≡ true
unfolding limit_kind flat_field
field-kind Field.Absent = refl
field-kind Field.Null = refl
field-kind (Field.Value v) = refl

target_kind : (f : Target) → setpoint_kind (flat_target f).kind ≡ true
unfolding setpoint_kind flat_target
target_kind None = refl
target_kind (Some v) = refl

currents-kept : (r : Request) (m : CurrentLimits) → current_command (flat_currents r m m.phases) ≡ Command.SetCurrentLimits m
unfolding current_command flat_currents
currents-kept r m =
    let f = m.phases in
    rw (field-kind f.a, field-kind f.b, field-kind f.c) (unfold currents_of phases_of in rw (field-kept f.a, field-kept f.b, field-kept f.c))

command_kept : (r : Request) (c : Command) → is_served c ≡ true → command_of (flat_request r c) ≡ c
unfolding flat_request command_of flat_set flat_currents flat_clear
command_kept r (Command.SetLimit m) e =
    rw (field-kind m.consumption, field-kind m.production) (unfold limits_of in rw (field-kept m.consumption, field-kept m.production))
command_kept r (Command.ClearLimit a) e = rw (aim_kept a)
command_kept r (Command.SetSetpoint m) e =
    rw (target_kind m.consumption, target_kind m.production) (unfold setpoints_of in rw (target_kept m.consumption, target_kept m.production, time_kept m.duration))
command_kept r (Command.ClearSetpoint a) e = rw (aim_kept a)
command_kept r (Command.SetCurrentLimits m) e = currents-kept r m
command_kept r (Command.ClearCurrentLimits a) e = rw (aim_kept a)
command_kept r (Command.Unserved n) e = absurd (let w : ◌≡◌ {A = ℕ} 0 1 = cc in omega arith)

envelope_kept : (r : Request) (c : Command) → ((flat_request r c).id ≡ r.id) × ((flat_request r c).endpoint ≡ r.endpoint) × ((flat_request r c).feature ≡ r.feature)
unfolding flat_request flat_set flat_currents flat_clear
envelope_kept r (Command.SetLimit m) = (refl, refl, refl)
envelope_kept r (Command.ClearLimit a) = (refl, refl, refl)
envelope_kept r (Command.SetSetpoint m) = (refl, refl, refl)
envelope_kept r (Command.ClearSetpoint a) = (refl, refl, refl)
envelope_kept r (Command.SetCurrentLimits m) = (refl, refl, refl)
envelope_kept r (Command.ClearCurrentLimits a) = (refl, refl, refl)
envelope_kept r (Command.Unserved n) = (refl, refl, refl)

same-request : {r : Request} {i n f : ℕ} {c : Command} → i ≡ r.id → n ≡ r.endpoint → f ≡ r.feature → c ≡ r.command
    → ◌≡◌ {A = Request} (record { id = i; endpoint = n; feature = f; command = c }) r
same-request a b d e = rw (a, b, d, e)

pub request_kept : RequestKept
unfolding request_of
request_kept r e =
    let k = envelope_kept r r.command in
    same-request k.0 k.1 k.2 (command_kept r r.command e)

-- a request that can be written is of a served command
writable_served : (r : Request) → request_number r ≡ 0 → is_served r.command ≡ true
unfolding request_number request_unserved first_of
writable_served r e = go (request_wide r) (served_at r.endpoint r.feature) (is_served r.command) e
  where
    go : (a b c : Bool) → cond {A = ℕ} a 3 (cond (not (b && c)) 4 0) ≡ 0 → c ≡ true
    go true b c e = absurd (omega arith)
    go false false c e = absurd (omega arith)
    go false true false e = absurd (omega arith)
    go false true true e = refl

pub read_plain : ReadPlain
read_plain bytes r e =
    let k = request_kept r (writable_served r (request-writable bytes r e).1) in
    ap (λ (q : Request). flat_request q q.command) k

pub request_in-words : RequestInWords
unfolding request_in request_words request_values
request_in-words q = made q (mark_kept q.directed) (mark_kept q.omitted) refl refl refl refl refl

pub flat-reads_back : FlatReadsBack
unfolding request_words_after request_values_after
flat-reads_back q ws vs p w e = rw (request_reads_back (request_of q) w e, p) (refl, refl, refl)

pub request_refused_whole : RequestRefusedWhole
unfolding request_words_after request_values_after
request_refused_whole (Reading.Is r) ws vs n = absurd (n refl)
request_refused_whole (Reading.Unserved i) ws vs n = (refl, refl)
request_refused_whole (Reading.Refused m) ws vs n = (refl, refl)

pub setpoint-zero_written : SetpointZeroWritten
unfolding setpoints_of setpoint_time
setpoint-zero_written q e = rw e

pub setpoint-omitted : SetpointOmitted
unfolding setpoints_of setpoint_time
setpoint-omitted q e z = rw (e, z)

pub omission_passed_over : OmissionPassedOver
unfolding setpoints_of setpoint_time
omission_passed_over q n = go q.omitted (eqb q.duration 0) refl
  where
    go : (o b : Bool) → eqb q.duration 0 ≡ b → cond (o && b) None (Some q.duration) ≡ Some q.duration
    go true true e = absurd (n (eqb-true q.duration 0 e))
    go true false e = refl
    go false b e = refl
