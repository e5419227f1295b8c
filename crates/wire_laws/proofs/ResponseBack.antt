-- A response that is written reads back equal. Assumes nothing.
use Prim.Native.Nat.{ℕ, suc, ◌^◌, ◌≤◌, ◌<◌}
use mathlib.Core.Path.{◌≡◌, refl, sym, ap, ◌∙◌}
use mathlib.Core.Bool.{Bool, true, false, cond, not, ◌&&◌, ◌||◌}
use mathlib.Core.List.{[], ◌∷◌}
use mathlib.Core.Option.{some, none, bind}
use native.Mathlib.Omega.{arith}
use lib.ListN.{length, length-append}
use lib.Dec.{leb, eqb}
use borrow.Author.Tests.{leb-true, eqb-true}
use Rattle.wire_cbor.specs.Item.{Item, Ok, encode, levels}
use Rattle.wire_heads.proofs.Widths.{head-length, head-short}
use Rattle.refusals.specs.Refusals.{first_of}
use Rattle.wire_messages.specs.declared.LimitResult.{LimitResult}
use Rattle.wire_messages.specs.declared.SetpointResult.{SetpointResult}
use Rattle.wire_messages.specs.declared.CurrentResult.{CurrentResult}
use Rattle.wire_messages.specs.declared.Outcome.{Outcome}
use Rattle.wire_messages.specs.declared.Response.{Response}
use Rattle.wire_fields.specs.Fields.{map_item, Fields, present, map_in, needed, most32, most_value, success_in}
use Rattle.wire_messages.specs.Numbers.{served_command}
use Rattle.wire_responses.specs.Responses.{is_status, stands, status_in, limit_result_in, setpoint_result_in, current_result_in, outcome_in, no_result, result_in, response_in, answer_of, read_response}
use Rattle.wire_responses.specs.WrittenResponses.{limit_fields, setpoint_fields, current_fields, clear_fields, outcome_item, response_fields, response_item, amount_up_to}
use Rattle.wire_responses.specs.WrittenResponses.{limit_in_range, setpoint_in_range, current_in_range, goes_with, is_nothing, fits, response_fits, response_number}
use Rattle.wire_fields.specs.Puts.{field_bytes}
use Rattle.wire_output.specs.Writing.{item_frame}
use Rattle.wire_laws.specs.RoundTrips.{ResponseReadsBack, OneResponse}
use Rattle.wire_responses.specs.declared.reading.Answer.{Answer}
use Rattle.wire_fields.proofs.Joined.{no_both, and_left, and_right}
use Rattle.wire_laws.proofs.Maps.{Ascending, field_at, values, OkField, OkFields, ShortFields, ok_map, map-short}
use Rattle.wire_laws.proofs.FieldsBack.{uint_back, truth-back, success_back, amount-back, ok_uint, ok_truth, ok_amount, short_uint, short_truth, short_amount}
use Rattle.wire_responses.proofs.Answered.{all_parts, answer-map_of}
use Rattle.wire_laws.proofs.Trips.{frame-payload, frame-framed}
use Rattle.wire_laws.proofs.PhaseTrips.{few_short, AmountsTo, short_amounts, ok_amounts, amounts_back}

-- THE RESULTS
module _ (l : LimitResult) where
  pub limit-ascend : Ascending (limit_fields l) 0
  unfolding limit_fields
  limit-ascend = (omega arith, (omega arith, (omega arith, (omega arith, (omega arith, tt)))))

  limit-short : ShortFields (limit_fields l) 18
  unfolding limit_fields
  limit-short = (short_truth 1 l.applied, (short_uint 2 l.state, (short_amount 3 l.consumption, (short_amount 4 l.production, (short_amount 5 l.reason, tt)))))

  module _ (h : limit_in_range l ≡ true) where
    pub limit-range : (l.state ≤ 4) × (amount_up_to most_value l.consumption ≡ true) × (amount_up_to most_value l.production ≡ true) × (amount_up_to 4 l.reason ≡ true)
    unfolding limit_in_range
    limit-range =
        let b = and_right (leb l.state 4) _ h in
        let c = and_right (amount_up_to most_value l.consumption) _ b in
        (leb-true l.state 4 (and_left _ _ h), and_left _ _ b, and_left _ _ c, and_right (amount_up_to most_value l.production) _ c)

    pub limit-ok : (d : ℕ) → OkFields (limit_fields l) d
    unfolding limit_fields
    limit-ok d = (
      omega arith,
      ok_truth l.applied d,
      (
        omega arith,
        ok_uint l.state d (omega (arith, limit-range.0)),
        (
          omega arith,
          ok_amount most_value l.consumption d (omega arith) limit-range.1,
          (omega arith, ok_amount most_value l.production d (omega arith) limit-range.2, (omega arith, ok_amount 4 l.reason d (omega arith) limit-range.3, tt)),
        ),
      ),
    )

    limit-back : limit_result_in (present (limit_fields l)) ≡ some l
    unfolding limit_result_in bind limit_fields
    limit-back =
        let v : (k : ℕ) → _ = λ (k : ℕ). values (limit_fields l) 0 k limit-ascend in
        rw (
          v 1,
          v 2,
          v 3,
          v 4,
          v 5,
          truth-back l.applied,
          uint_back 4 l.state limit-range.0,
          amount-back most_value l.consumption limit-range.1,
          amount-back most_value l.production limit-range.2,
          amount-back 4 l.reason limit-range.3,
        )

module _ (l : SetpointResult) where
  pub setpoint-ascend : Ascending (setpoint_fields l) 0
  unfolding setpoint_fields
  setpoint-ascend = (omega arith, (omega arith, (omega arith, tt)))

  setpoint-short : ShortFields (setpoint_fields l) 18
  unfolding setpoint_fields
  setpoint-short = (short_truth 1 true, (short_amount 2 l.consumption, (short_amount 3 l.production, tt)))

  module _ (h : setpoint_in_range l ≡ true) where
    setpoint-range : (amount_up_to most_value l.consumption ≡ true) × (amount_up_to most_value l.production ≡ true)
    unfolding setpoint_in_range
    setpoint-range = (and_left _ _ h, and_right (amount_up_to most_value l.consumption) _ h)

    pub setpoint-ok : (d : ℕ) → OkFields (setpoint_fields l) d
    unfolding setpoint_fields
    setpoint-ok d = (
      omega arith,
      ok_truth true d,
      (omega arith, ok_amount most_value l.consumption d (omega arith) setpoint-range.0, (omega arith, ok_amount most_value l.production d (omega arith) setpoint-range.1, tt)),
    )

    setpoint-back : setpoint_result_in (present (setpoint_fields l)) ≡ some l
    unfolding setpoint_result_in bind setpoint_fields
    setpoint-back =
        let v : (k : ℕ) → _ = λ (k : ℕ). values (setpoint_fields l) 0 k setpoint-ascend in
        rw (v 1, v 2, v 3, success_back, amount-back most_value l.consumption setpoint-range.0, amount-back most_value l.production setpoint-range.1)

module _ (l : CurrentResult) where
  pub current-ascend : Ascending (current_fields l) 0
  unfolding current_fields
  current-ascend = (omega arith, (omega arith, tt))

  current-short : ShortFields (current_fields l) 72
  unfolding current_fields
  current-short = (omega (arith, short_truth 1 true), (short_amounts l 2, tt))

  module _ (h : current_in_range l ≡ true) where
    current-range : AmountsTo most_value l
    unfolding current_in_range
    current-range =
        let b = and_right (amount_up_to most_value l.a) _ h in
        (and_left _ _ h, and_left _ _ b, and_right (amount_up_to most_value l.b) _ b)

    current-ok : (d : ℕ) → OkFields (current_fields l) (suc d)
    unfolding current_fields
    current-ok d = (omega arith, ok_truth true (suc d), (omega arith, ok_amounts l most_value current-range d (omega arith), tt))

    current-back : current_result_in (present (current_fields l)) ≡ some l
    unfolding current_result_in bind current_fields
    current-back =
        let v : (k : ℕ) → _ = λ (k : ℕ). values (current_fields l) 0 k current-ascend in
        rw (v 1, v 2, success_back, amounts_back l most_value current-range)

pub clear-ascend : Ascending clear_fields 0
unfolding clear_fields
clear-ascend = (omega arith, tt)

pub clear-ok : (d : ℕ) → OkFields clear_fields d
unfolding clear_fields
clear-ok d = (omega arith, ok_truth true d, tt)

-- THE RESULT OF A COMMAND
pub limit-few : (l : LimitResult) → length (limit_fields l) ≤ 5
unfolding limit_fields
limit-few l = omega arith

pub setpoint-few : (l : SetpointResult) → length (setpoint_fields l) ≤ 5
unfolding setpoint_fields
setpoint-few l = omega arith

pub current-few : (l : CurrentResult) → length (current_fields l) ≤ 5
unfolding current_fields
current-few l = omega arith

pub clear-few : length clear_fields ≤ 5
unfolding clear_fields
clear-few = omega arith

pub outcome_ok : (c : ℕ) (o : Outcome) (d : ℕ) → goes_with c o ≡ true → OkField (outcome_item o) (suc (suc d))
unfolding goes_with outcome_item
outcome_ok c Outcome.Nothing d h = absurd (no_both (sym h))
outcome_ok c (Outcome.Limit l) d h = ok_map (limit_fields l) (suc d) (omega (arith, limit-few l)) (limit-ascend l) (limit-ok l (and_right (eqb c 1) _ h) (suc d))
outcome_ok c (Outcome.Setpoint l) d h = ok_map (setpoint_fields l) (suc d) (omega (arith, setpoint-few l)) (setpoint-ascend l) (setpoint-ok l (and_right (eqb c 3) _ h) (suc d))
outcome_ok c (Outcome.Current l) d h = ok_map (current_fields l) (suc d) (omega (arith, current-few l)) (current-ascend l) (current-ok l (and_right (eqb c 5) _ h) d)
outcome_ok c Outcome.Success d h = ok_map clear_fields (suc d) (omega (arith, clear-few)) clear-ascend (clear-ok (suc d))

under-3 : (fs : Fields) → ShortFields fs 72 → length fs ≤ 5 → length (field_bytes 3 (map_item fs)) ≤ 378
unfolding field_bytes
under-3 fs h n = rw length-append (omega (arith, head-length 0 3, head-short 3, (map-short fs 72 h).1))

none-short : length (field_bytes 3 none) ≤ 378
unfolding field_bytes
none-short = omega arith

clear-short : ShortFields clear_fields 18
unfolding clear_fields
clear-short = (short_truth 1 true, tt)

outcome_short : (o : Outcome) → length (field_bytes 3 (outcome_item o)) ≤ 378
unfolding outcome_item
outcome_short Outcome.Nothing = none-short
outcome_short (Outcome.Limit l) = under-3 (limit_fields l) (few_short (limit_fields l) (limit-short l)) (limit-few l)
outcome_short (Outcome.Setpoint l) = under-3 (setpoint_fields l) (few_short (setpoint_fields l) (setpoint-short l)) (setpoint-few l)
outcome_short (Outcome.Current l) = under-3 (current_fields l) (current-short l) (current-few l)
outcome_short Outcome.Success = under-3 clear_fields (few_short clear_fields clear-short) clear-few

-- a clear's command is none of 1, 3 and 5
not_set : (c : ℕ) → (eqb c 2 || eqb c 4 || eqb c 6) ≡ true → (eqb c 1 ≡ false) × (eqb c 3 ≡ false) × (eqb c 5 ≡ false)
not_set c h = go (eqb c 2) (eqb c 4) refl refl h
  where
    go : (a b : Bool) → eqb c 2 ≡ a → eqb c 4 ≡ b → (a || b || eqb c 6) ≡ true → (eqb c 1 ≡ false) × (eqb c 3 ≡ false) × (eqb c 5 ≡ false)
    go true b x y e = let z = eqb-true c 2 x in rw z (refl, refl, refl)
    go false true x y e = let z = eqb-true c 4 y in rw z (refl, refl, refl)
    go false false x y e = let z = eqb-true c 6 e in rw z (refl, refl, refl)

clear_first : success_in (field_at clear_fields 1) ≡ some true
unfolding clear_fields
clear_first = success_back

-- a served command's result reads back
outcome_back : (c : ℕ) (o : Outcome) → goes_with c o ≡ true → bind (needed map_in (outcome_item o)) (outcome_in c) ≡ some o
unfolding goes_with outcome_item needed map_in bind outcome_in
outcome_back c Outcome.Nothing h = absurd (no_both (sym h))
outcome_back c (Outcome.Limit l) h = rw (and_left (eqb c 1) (limit_in_range l) h, limit-back l (and_right (eqb c 1) _ h))
outcome_back c (Outcome.Setpoint l) h = rw (eqb-true c 3 (and_left (eqb c 3) (setpoint_in_range l) h), setpoint-back l (and_right (eqb c 3) _ h))
outcome_back c (Outcome.Current l) h = rw (eqb-true c 5 (and_left (eqb c 5) (current_in_range l) h), current-back l (and_right (eqb c 5) _ h))
outcome_back c Outcome.Success h = rw ((not_set c h).0, (not_set c h).1, (not_set c h).2, values clear_fields 0 1 clear-ascend, clear_first)

none-back : (o : Outcome) → is_nothing o ≡ true → no_result (outcome_item o) ≡ some o
unfolding outcome_item
none-back Outcome.Nothing h = refl
none-back (Outcome.Limit l) h = absurd (no_both (sym h))
none-back (Outcome.Setpoint l) h = absurd (no_both (sym h))
none-back (Outcome.Current l) h = absurd (no_both (sym h))
none-back Outcome.Success h = absurd (no_both (sym h))

none-ok : (o : Outcome) (d : ℕ) → is_nothing o ≡ true → OkField (outcome_item o) d
unfolding outcome_item
none-ok Outcome.Nothing d h = tt
none-ok (Outcome.Limit l) d h = absurd (no_both (sym h))
none-ok (Outcome.Setpoint l) d h = absurd (no_both (sym h))
none-ok (Outcome.Current l) d h = absurd (no_both (sym h))
none-ok Outcome.Success d h = absurd (no_both (sym h))

module _ (c n : ℕ) (o : Outcome) (h : fits c n o ≡ true) where
  result_back : result_in c n (outcome_item o) ≡ some o
  unfolding result_in fits
  result_back = go (stands c n) refl h
    where
      go : (b : Bool) → stands c n ≡ b → cond b (goes_with c o) (is_nothing o) ≡ true → cond b (bind (needed map_in (outcome_item o)) (outcome_in c)) (no_result (outcome_item o)) ≡ some o
      go true x y = outcome_back c o y
      go false x y = none-back o y

  pub result_ok : (d : ℕ) → OkField (outcome_item o) (suc (suc d))
  unfolding fits
  result_ok d = go (stands c n) h
    where
      go : (b : Bool) → cond b (goes_with c o) (is_nothing o) ≡ true → OkField (outcome_item o) (suc (suc d))
      go true y = outcome_ok c o d y
      go false y = none-ok o (suc (suc d)) y

-- THE RESPONSE
pub status_small : (n : ℕ) → is_status n ≡ true → n ≤ 14
unfolding is_status
status_small n h = go (eqb n 0) (eqb n 4) (eqb n 5) refl refl refl h
  where
    go : (x y z : Bool) → eqb n 0 ≡ x → eqb n 4 ≡ y → eqb n 5 ≡ z → (x || y || z || (leb 9 n && leb n 14)) ≡ true → n ≤ 14
    go true y z a b d e = let q = eqb-true n 0 a in omega arith
    go false true z a b d e = let q = eqb-true n 4 b in omega arith
    go false false true a b d e = let q = eqb-true n 5 d in omega arith
    go false false false a b d e = leb-true n 14 (and_right (leb 9 n) _ e)

status_back : (n : ℕ) → is_status n ≡ true → status_in (some (Item.uint n)) ≡ some n
unfolding status_in bind
status_back n h = rw (uint_back 14 n (status_small n h), h)

module _ (r : Response) where
  pub response_ascend : Ascending (response_fields r) 0
  unfolding response_fields
  response_ascend = (omega arith, (omega arith, (omega arith, tt)))

  pub response_few : length (response_fields r) < 2 ^ 64
  unfolding response_fields
  response_few = omega arith

  pub response_ok : r.id ≤ most32 → is_status r.status ≡ true → OkField (outcome_item r.outcome) 7 → OkFields (response_fields r) 7
  unfolding response_fields
  response_ok a b o = (omega arith, ok_uint r.id 7 (omega arith), (omega arith, ok_uint r.status 7 (omega (arith, status_small r.status b)), (omega arith, o, tt)))

  response_short : (1 ≤ length (encode (response_item r))) × (length (encode (response_item r)) ≤ 1143)
  unfolding response_item response_fields
  response_short =
      let h : ShortFields (response_fields r) 378 = (omega (arith, short_uint 1 r.id), (omega (arith, short_uint 2 r.status), (outcome_short r.outcome, tt))) in
      map-short (response_fields r) 378 h

  module _ (c : ℕ) (h : response_fits c r ≡ true) where
    pub response_ranges : (r.id ≤ most32) × (is_status r.status ≡ true) × (fits c r.status r.outcome ≡ true)
    unfolding response_fits
    response_ranges =
        let b = and_right (leb r.id most32) _ h in
        (leb-true r.id most32 (and_left _ _ h), and_left _ _ b, and_right (is_status r.status) _ b)

    item_ok : Ok (response_item r) levels
    unfolding response_item
    item_ok = ok_map (response_fields r) 7 response_few response_ascend (response_ok response_ranges.0 response_ranges.1 (result_ok c r.status r.outcome response_ranges.2 5))

    body_back : response_in c (present (response_fields r)) ≡ some r
    unfolding response_fields
    body_back =
        let v : (k : ℕ) → _ = λ (k : ℕ). values (response_fields r) 0 k response_ascend in
        all_parts c (present (response_fields r)) r.id (rw (v 1) (uint_back most32 r.id response_ranges.0))
        r.status (rw (v 2) (status_back r.status response_ranges.1))
        r.outcome (rw (v 3) (result_back c r.status r.outcome response_ranges.2))

    pub answer_back : served_command c ≡ true → read_response c (item_frame (response_item r)) ≡ Answer.Is r
    unfolding read_response map_in response_item
    answer_back s =
        let x = response_short in
        rw s
        (answer-map_of c (item_frame (response_item r)) (response_item r) (present (response_fields r))
        (frame-framed (response_item r) x.0 (omega (arith, x.1))) (frame-payload (response_item r) item_ok) refl
        ∙ ap answer_of body_back)

pub no_test : (a b : Bool) → first_of ((not a, 4) ∷ (not b, 3) ∷ []) ≡ 0 → (a ≡ true) × (b ≡ true)
unfolding first_of
no_test false b e = absurd (let z : ◌≡◌ {A = ℕ} 4 0 = e in omega arith)
no_test true false e = absurd (let z : ◌≡◌ {A = ℕ} 3 0 = e in omega arith)
no_test true true e = (refl, refl)

pub response_reads_back : ResponseReadsBack
unfolding response_number
response_reads_back c r e = let x = no_test (served_command c) (response_fits c r) e in answer_back r c x.1 x.0

pub one_response : OneResponse
one_response c r q er eq same =
    let d : Answer.Is r ≡ Answer.Is q = sym (response_reads_back c r er) ∙ ap (read_response c) same ∙ response_reads_back c q eq in cc
