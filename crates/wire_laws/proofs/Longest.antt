-- The longest frames: each field has at most so many bytes, by the width of its number. Assumes nothing.
use Rattle.std.specs.Prelude.{None, Some}
use Prim.Native.Nat.{ℕ, ◌+◌, ◌≤◌, ◌<◌}
use mathlib.Core.Path.{◌≡◌, refl, sym, ap, ◌∙◌}
use mathlib.Core.Bool.{Bool, true, false, cond}
use mathlib.Core.List.{[], ◌∷◌}
use mathlib.Core.Option.{Option, some, none}
use native.Mathlib.Omega.{arith}
use lib.ListN.{length, length-append}
use lib.Dec.{eqb}
use lib.IntN.{pos, negsuc}
use borrow.Author.Tests.{leb-true, ltb-false, eqb-true}
use Rattle.wire_bytes.specs.Bytes.{bytes_of}
use Rattle.wire_bytes.proofs.NumberLaws.{bytes-length}
use Rattle.wire_heads.specs.Head.{info_of, width_of, head_len, head_bytes}
use Rattle.wire_cbor.specs.Item.{Item, encode, encode_pairs, count_pairs}
use Rattle.wire_heads.proofs.Widths.{by_width, head-length, head-short}
use Rattle.wire_messages.specs.declared.Field.{Field}
use Rattle.wire_messages.specs.Options.{Amount}
use Rattle.wire_messages.specs.Options.{Aim}
use Rattle.wire_messages.specs.declared.LimitResult.{LimitResult}
use Rattle.wire_messages.specs.declared.SetpointResult.{SetpointResult}
use Rattle.wire_messages.specs.declared.CurrentLimits.{CurrentLimits}
use Rattle.wire_messages.specs.declared.CurrentResult.{CurrentResult}
use Rattle.wire_messages.specs.declared.Command.{Command}
use Rattle.wire_messages.specs.declared.Outcome.{Outcome}
use Rattle.wire_messages.specs.declared.Response.{Response}
use Rattle.wire_messages.specs.Numbers.{wire_number}
use Rattle.refusals.specs.Refusals.{first_of}
use Rattle.wire_fields.specs.Fields.{map_item, Fields, present, most32, value_item, aim_item, amount_item, truth_item}
use Rattle.wire_fields.specs.ByPhase.{phase_fields, phase_map, phases_item, currents_item}
use Rattle.wire_fields.specs.Puts.{field_bytes}
use Rattle.wire_fields.proofs.Added.{map-bytes, fields_none, fields_more}
use Rattle.wire_fields.proofs.Joined.{no_both, and_left, and_right}
use Rattle.wire_prefix.specs.Prefix.{frame_of}
use Rattle.wire_output.specs.Writing.{item_frame}
use Rattle.wire_responses.specs.Sizes.{longest_response}
use Rattle.wire_requests.specs.WrittenSettings.{target_field, duration_amount, setting_of_limits, setting_of_setpoints, setting_fields, current_limit_fields}
use Rattle.wire_requests.specs.WrittenRequests.{command_fields, request_fields, request_item, request_number, request_wide, request_unserved, command_wide, aim_wide, is_served}
use Rattle.wire_messages.specs.Numbers.{served_at, served_command}
use Rattle.wire_responses.specs.WrittenResponses.{limit_fields, setpoint_fields, current_fields, clear_fields, outcome_item, response_fields, response_item}
use Rattle.wire_responses.specs.WrittenResponses.{response_number, response_fits, fits, goes_with, limit_in_range, current_in_range, amount_up_to, is_nothing}
use Rattle.wire_responses.specs.Responses.{stands, is_status}
use Rattle.wire_laws.specs.Longest.{RequestLongest, RequestReached, ResponseLongest, ResponseReached}
use Rattle.wire_laws.proofs.Maps.{count-fields}
use Rattle.wire_laws.proofs.RequestBack.{request_ranges, request_served, is-served, wire_served, command_few, duration_range, wide_parts, wide_setpoints, wide_currents}
use Rattle.wire_laws.proofs.ResponseBack.{limit-range, limit-few, setpoint-few, current-few, clear-few, status_small, response_ranges, no_test}

-- HEADS
len_1 : (v : ℕ) → v < 24 → head_len v ≤ 1
unfolding head_len
len_1 v h =
    by_width (λ (i w : ℕ). 1 + w ≤ 1) v (λ a. omega arith) (λ a b. absurd (omega arith)) (λ a b. absurd (omega arith)) (λ a b. absurd (omega arith))
    (λ a. absurd (omega arith))

len_2 : (v : ℕ) → v < 256 → head_len v ≤ 2
unfolding head_len
len_2 v h = by_width (λ (i w : ℕ). 1 + w ≤ 2) v (λ a. omega arith) (λ a b. omega arith) (λ a b. absurd (omega arith)) (λ a b. absurd (omega arith)) (λ a. absurd (omega arith))

len_5 : (v : ℕ) → v < 4294967296 → head_len v ≤ 5
unfolding head_len
len_5 v h = by_width (λ (i w : ℕ). 1 + w ≤ 5) v (λ a. omega arith) (λ a b. omega arith) (λ a b. omega arith) (λ a b. omega arith) (λ a. absurd (omega arith))

-- MAPS AND FRAMES
frame-length : (i : Item) → length (item_frame i) ≡ 4 + length (encode i)
unfolding item_frame frame_of
frame-length i = length-append (bytes_of 4 (length (encode i))) (encode i) ∙ ap (λ (n : ℕ). n + length (encode i)) (bytes-length 4 (length (encode i)))

map-long : (fs : Fields) (n : ℕ) → length fs ≤ 23 → length (encode_pairs (present fs)) ≤ n → length (encode (Item.map (present fs))) ≤ 1 + n
map-long fs n few h =
    let k : ℕ = count_pairs (present fs) in
    rw (map-bytes fs, length-append) (omega (arith, head-length 5 k, len_1 k (omega (arith, count-fields fs)), h))

pairs-none : length (encode_pairs (present [])) ≤ 0
pairs-none = rw fields_none (omega arith)

pairs-more : (k : ℕ) (o : Option Item) (fs : Fields) (a b : ℕ) → length (field_bytes k o) ≤ a → length (encode_pairs (present fs)) ≤ b → length (encode_pairs (present ((k, o) ∷ fs))) ≤ a + b
pairs-more k o fs a b x y = rw (fields_more k o fs, length-append) (omega arith)

-- FIELDS
module _ (k : ℕ) (low : k < 24) where
  none-long : length (field_bytes k none) ≤ 0
  unfolding field_bytes
  none-long = omega arith

  uint_long : (v n : ℕ) → head_len v ≤ n → length (field_bytes k (some (Item.uint v))) ≤ 1 + n
  unfolding field_bytes encode
  uint_long v n h = rw length-append (omega (arith, head-length 0 k, len_1 k low, head-length 0 v))

  simple_long : (v : ℕ) → v < 24 → length (field_bytes k (some (Item.simple v))) ≤ 2
  unfolding field_bytes encode
  simple_long v h = rw length-append (omega (arith, head-length 0 k, len_1 k low, head-length 7 v, len_1 v h))

  truth-long : (b : Bool) → length (field_bytes k (some (truth_item b))) ≤ 2
  truth-long true = simple_long 21 (omega arith)
  truth-long false = simple_long 20 (omega arith)

  value_long : (f : Field) → length (field_bytes k (value_item f)) ≤ 10
  unfolding value_item field_bytes encode
  value_long Field.Absent = omega arith
  value_long Field.Null = omega (arith, simple_long 22 (omega arith))
  value_long (Field.Value (pos n)) = uint_long n 9 (head-short n)
  value_long (Field.Value (negsuc n)) = rw length-append (omega (arith, head-length 0 k, len_1 k low, head-length 1 n, head-short n))

  duration_long : (a : Amount) → amount_up_to most32 a ≡ true → length (field_bytes k (amount_item a)) ≤ 6
  unfolding amount_item
  duration_long None h = omega (arith, none-long)
  duration_long (Some d) h = uint_long d 5 (len_5 d (omega (arith, leb-true d most32 h)))

  aim_long : (a : Aim) → aim_wide a ≡ false → length (field_bytes k (aim_item a)) ≤ 2
  unfolding aim_item
  aim_long None h = omega (arith, none-long)
  aim_long (Some d) h = uint_long d 1 (len_1 d (omega (arith, ltb-false 1 d h)))

  amount-long : (a : Amount) → length (field_bytes k (amount_item a)) ≤ 10
  unfolding amount_item
  amount-long None = omega (arith, none-long)
  amount-long (Some v) = uint_long v 9 (head-short v)

  reason-long : (a : Amount) → amount_up_to 4 a ≡ true → length (field_bytes k (amount_item a)) ≤ 2
  unfolding amount_item
  reason-long None h = omega (arith, none-long)
  reason-long (Some v) h = uint_long v 1 (len_1 v (omega (arith, leb-true v 4 h)))

  below_long : (fs : Fields) (n : ℕ) → length fs ≤ 23 → length (encode_pairs (present fs)) ≤ n → length (field_bytes k (some (Item.map (present fs)))) ≤ 2 + n
  unfolding field_bytes
  below_long fs n few h = rw length-append (omega (arith, head-length 0 k, len_1 k low, map-long fs n few h))

  -- the key, the head of the map and three numbers
  phases-long : (a b c : Option Item) → length (field_bytes 0 a) ≤ 10 → length (field_bytes 1 b) ≤ 10 → length (field_bytes 2 c) ≤ 10 → length (field_bytes k (phase_map a b c)) ≤ 32
  phases-long a b c x y z = below_long (phase_fields a b c) 30 (omega arith) (pairs-more 0 a _ 10 20 x (pairs-more 1 b _ 10 10 y (pairs-more 2 c [] 10 0 z pairs-none)))

-- REQUESTS
setting_long : (c p : Field) (d : Amount) (k : ℕ) → amount_up_to most32 d ≡ true → k ≤ 255
    → length (encode_pairs (present (setting_fields (record { consumption = c; production = p; duration = d; cause = k })))) ≤ 29
unfolding setting_fields
setting_long c p d k hd hk =
    pairs-more 1 _ _ 10 19 (value_long 1 (omega arith) c)
    (pairs-more 2 _ _ 10 9 (value_long 2 (omega arith) p)
    (pairs-more 3 _ _ 6 3 (duration_long 3 (omega arith) d hd)
    (pairs-more 4 _ _ 3 0 (uint_long 4 (omega arith) k 2 (len_2 k (omega arith))) pairs-none)))

current-long : (l : CurrentLimits) → (l.direction ≤ 1) × (l.duration ≤ most32) × (l.cause ≤ 255) → length (encode_pairs (present (current_limit_fields l))) ≤ 43
unfolding current_limit_fields phases_item
current-long l w =
    let p = l.phases in
    pairs-more 1 _ _ 32 11 (phases-long 1 (omega arith) _ _ _ (value_long 0 (omega arith) p.a) (value_long 1 (omega arith) p.b) (value_long 2 (omega arith) p.c))
    (pairs-more 2 _ _ 2 9 (uint_long 2 (omega arith) l.direction 1 (len_1 l.direction (omega (arith, w.0))))
    (pairs-more 3 _ _ 6 3 (duration_long 3 (omega arith) (duration_amount l.duration) (duration_range l.duration w.1))
    (pairs-more 4 _ _ 3 0 (uint_long 4 (omega arith) l.cause 2 (len_2 l.cause (omega (arith, w.2)))) pairs-none)))

one_aim : (a : Aim) → aim_wide a ≡ false → length (encode_pairs (present ((1, aim_item a) ∷ []))) ≤ 43
one_aim a w = omega (arith, pairs-more 1 (aim_item a) [] 2 0 (aim_long 1 (omega arith) a w) pairs-none)

command_long : (c : Command) → command_wide c ≡ false → length (encode_pairs (present (command_fields c))) ≤ 43
unfolding command_fields command_wide setting_of_limits setting_of_setpoints
command_long (Command.SetLimit l) w =
    let x = wide_parts l.duration l.cause w in
    omega (arith, setting_long l.consumption l.production (duration_amount l.duration) l.cause (duration_range l.duration x.0) x.1)
command_long (Command.ClearLimit a) w = one_aim a w
command_long (Command.SetSetpoint l) w =
    let x = wide_setpoints l.duration l.cause w in
    omega (arith, setting_long (target_field l.consumption) (target_field l.production) l.duration l.cause x.0 x.1)
command_long (Command.ClearSetpoint a) w = one_aim a w
command_long (Command.SetCurrentLimits l) w = current-long l (wide_currents l.direction l.duration l.cause w)
command_long (Command.ClearCurrentLimits a) w = one_aim a w
command_long (Command.Unserved n) w = omega (arith, pairs-none)

pub request_longest : RequestLongest
unfolding request_item request_fields served_at
request_longest r e =
    let g = request_ranges r e in
    let s = and_left (served_at r.endpoint r.feature) (is_served r.command) (request_served r e) in
    let at : (r.endpoint ≡ 1) × (r.feature ≡ 5) = (eqb-true r.endpoint 1 (and_left _ _ s), eqb-true r.feature 5 (and_right (eqb r.endpoint 1) _ s)) in
    let c = wire_served r.command (is-served r e) in
    let m = map-long (request_fields r) 57 (omega arith)
    (pairs-more 1 _ _ 6 51 (uint_long 1 (omega arith) r.id 5 (len_5 r.id (omega (arith, g.0))))
    (pairs-more 2 _ _ 2 49 (uint_long 2 (omega arith) r.endpoint 1 (len_1 r.endpoint (omega (arith, at.0))))
    (pairs-more 3 _ _ 2 47 (uint_long 3 (omega arith) r.feature 1 (len_1 r.feature (omega (arith, at.1))))
    (pairs-more 4 _ _ 2 45 (uint_long 4 (omega arith) (wire_number r.command) 1 (len_1 (wire_number r.command) (omega (arith, c.0))))
    (pairs-more 5 _ _ 45 0 (below_long 5 (omega arith) (command_fields r.command) 43 (omega (arith, command_few r.command)) (command_long r.command g.3)) pairs-none))))) in
    omega (arith, frame-length (Item.map (present (request_fields r))), m)

-- RESPONSES
limit-long : (l : LimitResult) → limit_in_range l ≡ true → length (encode_pairs (present (limit_fields l))) ≤ 26
unfolding limit_fields
limit-long l h =
    let g = limit-range l h in
    pairs-more 1 _ _ 2 24 (truth-long 1 (omega arith) l.applied)
    (pairs-more 2 _ _ 2 22 (uint_long 2 (omega arith) l.state 1 (len_1 l.state (omega (arith, g.0))))
    (pairs-more 3 _ _ 10 12 (amount-long 3 (omega arith) l.consumption)
    (pairs-more 4 _ _ 10 2 (amount-long 4 (omega arith) l.production)
    (pairs-more 5 _ _ 2 0 (reason-long 5 (omega arith) l.reason g.3) pairs-none))))

setpoint-long : (l : SetpointResult) → length (encode_pairs (present (setpoint_fields l))) ≤ 22
unfolding setpoint_fields
setpoint-long l =
    pairs-more 1 _ _ 2 20 (truth-long 1 (omega arith) true)
    (pairs-more 2 _ _ 10 10 (amount-long 2 (omega arith) l.consumption)
    (pairs-more 3 _ _ 10 0 (amount-long 3 (omega arith) l.production) pairs-none))

current-result_long : (l : CurrentResult) → length (encode_pairs (present (current_fields l))) ≤ 34
unfolding current_fields currents_item
current-result_long l =
    pairs-more 1 _ _ 2 32 (truth-long 1 (omega arith) true)
    (pairs-more 2 _ _ 32 0 (phases-long 2 (omega arith) _ _ _ (amount-long 0 (omega arith) l.a) (amount-long 1 (omega arith) l.b) (amount-long 2 (omega arith) l.c)) pairs-none)

clear-long : length (encode_pairs (present clear_fields)) ≤ 2
unfolding clear_fields
clear-long = pairs-more 1 (some (truth_item true)) [] 2 0 (truth-long 1 (omega arith) true) pairs-none

result_long : (fs : Fields) → length fs ≤ 5 → length (encode_pairs (present fs)) ≤ 34 → length (field_bytes 3 (map_item fs)) ≤ 36
result_long fs few h = below_long 3 (omega arith) fs 34 (omega arith) h

goes_long : (c : ℕ) (o : Outcome) → goes_with c o ≡ true → length (field_bytes 3 (outcome_item o)) ≤ 36
unfolding goes_with outcome_item
goes_long c Outcome.Nothing h = absurd (no_both (sym h))
goes_long c (Outcome.Limit l) h = result_long (limit_fields l) (limit-few l) (omega (arith, limit-long l (and_right (eqb c 1) _ h)))
goes_long c (Outcome.Setpoint l) h = result_long (setpoint_fields l) (setpoint-few l) (omega (arith, setpoint-long l))
goes_long c (Outcome.Current l) h = result_long (current_fields l) (current-few l) (current-result_long l)
goes_long c Outcome.Success h = result_long clear_fields clear-few (omega (arith, clear-long))

nothing-long : (o : Outcome) → is_nothing o ≡ true → length (field_bytes 3 (outcome_item o)) ≤ 36
unfolding outcome_item
nothing-long Outcome.Nothing h = omega (arith, none-long 3 (omega arith))
nothing-long (Outcome.Limit l) h = absurd (no_both (sym h))
nothing-long (Outcome.Setpoint l) h = absurd (no_both (sym h))
nothing-long (Outcome.Current l) h = absurd (no_both (sym h))
nothing-long Outcome.Success h = absurd (no_both (sym h))

outcome_long : (c n : ℕ) (o : Outcome) → fits c n o ≡ true → length (field_bytes 3 (outcome_item o)) ≤ 36
unfolding fits
outcome_long c n o = go (stands c n)
  where
    go : (b : Bool) → cond b (goes_with c o) (is_nothing o) ≡ true → length (field_bytes 3 (outcome_item o)) ≤ 36
    go true h = goes_long c o h
    go false h = nothing-long o h

-- by the ranges of its parts
response_long : (r : Response) → r.id ≤ most32 → r.status ≤ 14 → length (field_bytes 3 (outcome_item r.outcome)) ≤ 36 → length (item_frame (response_item r)) ≤ longest_response
unfolding response_item response_fields
response_long r a b o =
    let m = map-long (response_fields r) 44 (omega arith)
    (pairs-more 1 _ _ 6 38 (uint_long 1 (omega arith) r.id 5 (len_5 r.id (omega arith)))
    (pairs-more 2 _ _ 2 36 (uint_long 2 (omega arith) r.status 1 (len_1 r.status (omega arith)))
    (pairs-more 3 _ _ 36 0 o pairs-none))) in
    omega (arith, frame-length (Item.map (present (response_fields r))), m)

pub response_longest : ResponseLongest
unfolding response_number
response_longest c r e =
    let f = (no_test (served_command c) (response_fits c r) e).1 in
    let g = response_ranges r c f in
    response_long r g.0 (status_small r.status g.1) (outcome_long c r.status r.outcome g.2)

-- THE LONGEST ARE AS LONG
pub request_reached : RequestReached
unfolding item_frame frame_of request_item request_fields command_fields current_limit_fields phases_item present value_item amount_item encode encode_pairs
    count_pairs head_bytes info_of width_of bytes_of request_number request_wide request_unserved command_wide served_at first_of
request_reached = (
  record {
    id = 4294967295;
    endpoint = 1;
    feature = 5;
    command = Command.SetCurrentLimits (record {
      phases = record { a = Field.Value (pos 9223372036854775807); b = Field.Value (pos 9223372036854775807); c = Field.Value (pos 9223372036854775807) };
      direction = 1;
      duration = 4294967295;
      cause = 255;
    });
  },
  refl,
  refl,
)

pub response_reached : ResponseReached
unfolding item_frame frame_of response_item response_fields outcome_item current_fields currents_item amount_item present encode encode_pairs count_pairs
    head_bytes info_of width_of bytes_of response_number response_fits fits stands goes_with current_in_range is_status served_command first_of
response_reached = (
  5,
  record {
    id = 4294967295;
    status = 0;
    outcome = Outcome.Current (record { a = Some 9223372036854775807; b = Some 9223372036854775807; c = Some 9223372036854775807 });
  },
  refl,
  refl,
)
