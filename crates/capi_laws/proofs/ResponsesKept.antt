-- A response made flat and taken back: its result goes with the command, and its amounts are below 2^63.
use Rattle.std.specs.Prelude.{None, Some}
use Prim.Native.Nat.{ℕ, ◌≤◌}
use mathlib.Core.Path.{◌≡◌, refl, ap}
use mathlib.Core.Bool.{Bool, true, false, cond, not, ◌&&◌, ◌||◌}
use native.Mathlib.Omega.{arith}
use lib.Dec.{leb, eqb}
use borrow.Author.Tests.{leb-true, lt-ltb, eqb-true}
use Rattle.refusals.specs.Refusals.{first_of}
use Rattle.wire_messages.specs.Options.{Amount}
use Rattle.wire_messages.specs.declared.LimitResult.{LimitResult}
use Rattle.wire_messages.specs.declared.SetpointResult.{SetpointResult}
use Rattle.wire_messages.specs.declared.CurrentResult.{CurrentResult}
use Rattle.wire_messages.specs.declared.Outcome.{Outcome}
use Rattle.wire_messages.specs.declared.Response.{Response}
use Rattle.wire_fields.specs.Fields.{most_value}
use Rattle.wire_messages.specs.Numbers.{served_command}
use Rattle.wire_responses.specs.Responses.{is_status, stands}
use Rattle.wire_responses.specs.WrittenResponses.{amount_up_to, limit_in_range, setpoint_in_range, current_in_range, goes_with, is_nothing, fits, response_fits, response_number}
use Rattle.wire_responses.specs.declared.reading.Answer.{Answer}
use Rattle.wire_laws.proofs.ResponseBack.{response_reads_back}
use Rattle.wire_laws.proofs.ResponseAgain.{response-writable}
use Rattle.device_holds.specs.Holds.{shown}
use Rattle.capi_fields.specs.Amounts.{value_end, amount_of, flat_amount}
use Rattle.capi_messages.specs.Responses.{limit_of, setpoint_of, current_of, outcome_of, response_of, flat, flat_current, flat_response}
use Rattle.capi_messages.specs.Responses.{response_in, response_words, response_values}
use Rattle.capi.specs.Responses.{response_words_after, response_values_after}
use Rattle.capi_laws.proofs.Marks.{mark_kept}
use Rattle.capi_laws.specs.Inverse.{AmountShown, ResponseKept, AnswerPlain, ResponseInWords, FlatAnswerReadsBack, ResponseRefusedWhole}

never : {A : Type 0} → false ≡ true → A
never e = absurd (let w : ◌≡◌ {A = ℕ} 0 1 = cc in omega arith)

both : (a b : Bool) → (a && b) ≡ true → (a ≡ true) × (b ≡ true)
both true b e = (refl, e)
both false b e = never e

pub amount-shown : AmountShown
unfolding flat_amount shown
amount-shown None = refl
amount-shown (Some v) = refl

amount-kept : (n : ℕ) (a : Amount) → n ≤ most_value → amount_up_to n a ≡ true → amount_of (flat_amount a) ≡ a
unfolding amount_of flat_amount
amount-kept n None l e = refl
amount-kept n (Some v) l e = let h = leb-true v n e in rw (lt-ltb v value_end (omega arith))

limit-kept : (command : ℕ) (r : Response) (l : LimitResult) → (eqb command 1 && limit_in_range l) ≡ true → outcome_of command (flat_response r (Outcome.Limit l)) ≡ Outcome.Limit l
unfolding flat_response flat outcome_of limit_in_range
limit-kept command r l e =
    let p = both (eqb command 1) _ e in
    let s = both (leb l.state 4) _ p.1 in
    let c = both (amount_up_to most_value l.consumption) _ s.1 in
    let d = both (amount_up_to most_value l.production) (amount_up_to 4 l.reason) c.1 in
    rw p.0 (unfold limit_of in
    rw (amount-kept most_value l.consumption (omega arith) c.0, amount-kept most_value l.production (omega arith) d.0, amount-kept 4 l.reason (omega arith) d.1))

setpoint-kept : (command : ℕ) (r : Response) (l : SetpointResult) → (eqb command 3 && setpoint_in_range l) ≡ true
    → outcome_of command (flat_response r (Outcome.Setpoint l)) ≡ Outcome.Setpoint l
unfolding flat_response flat outcome_of setpoint_in_range
setpoint-kept command r l e =
    let p = both (eqb command 3) _ e in
    let c = both (amount_up_to most_value l.consumption) (amount_up_to most_value l.production) p.1 in
    let three = eqb-true command 3 p.0 in
    rw three (unfold setpoint_of in rw (amount-kept most_value l.consumption (omega arith) c.0, amount-kept most_value l.production (omega arith) c.1))

current-kept : (command : ℕ) (r : Response) (l : CurrentResult) → (eqb command 5 && current_in_range l) ≡ true → outcome_of command (flat_response r (Outcome.Current l)) ≡ Outcome.Current l
unfolding flat_response flat_current outcome_of current_in_range
current-kept command r l e =
    let p = both (eqb command 5) _ e in
    let x = both (amount_up_to most_value l.a) _ p.1 in
    let y = both (amount_up_to most_value l.b) (amount_up_to most_value l.c) x.1 in
    let five = eqb-true command 5 p.0 in
    rw five (unfold current_of in
    rw (amount-kept most_value l.a (omega arith) x.0, amount-kept most_value l.b (omega arith) y.0, amount-kept most_value l.c (omega arith) y.1))

-- a clear, by its number n
success_at : (command n : ℕ) (r : Response) → outcome_of n (flat_response r Outcome.Success) ≡ Outcome.Success → eqb command n ≡ true
    → outcome_of command (flat_response r Outcome.Success) ≡ Outcome.Success
success_at command n r h e = rw (eqb-true command n e) h

success_kept : (command : ℕ) (r : Response) → (eqb command 2 || eqb command 4 || eqb command 6) ≡ true → outcome_of command (flat_response r Outcome.Success) ≡ Outcome.Success
unfolding flat_response flat outcome_of
success_kept command r e = go (eqb command 2) (eqb command 4) (eqb command 6) e (success_at command 2 r refl) (success_at command 4 r refl) (success_at command 6 r refl)
  where
    go : {X : Type 0} (a b c : Bool) → (a || b || c) ≡ true → (a ≡ true → X) → (b ≡ true → X) → (c ≡ true → X) → X
    go true b c e p q s = p refl
    go false true c e p q s = q refl
    go false false true e p q s = s refl
    go false false false e p q s = never e

outcome_kept : (command : ℕ) (r : Response) (o : Outcome) (b : Bool) → cond b (goes_with command o) (is_nothing o) ≡ true → outcome_of command (flat_response r o) ≡ o
unfolding goes_with
outcome_kept command r Outcome.Nothing b e = unfold flat_response flat outcome_of in refl
outcome_kept command r (Outcome.Limit l) true e = limit-kept command r l e
outcome_kept command r (Outcome.Limit l) false e = never e
outcome_kept command r (Outcome.Setpoint l) true e = setpoint-kept command r l e
outcome_kept command r (Outcome.Setpoint l) false e = never e
outcome_kept command r (Outcome.Current l) true e = current-kept command r l e
outcome_kept command r (Outcome.Current l) false e = never e
outcome_kept command r Outcome.Success true e = success_kept command r e
outcome_kept command r Outcome.Success false e = never e

head-kept : (r : Response) (o : Outcome) → ((flat_response r o).id ≡ r.id) × ((flat_response r o).status ≡ r.status)
unfolding flat_response flat flat_current
head-kept r Outcome.Nothing = (refl, refl)
head-kept r (Outcome.Limit l) = (refl, refl)
head-kept r (Outcome.Setpoint l) = (refl, refl)
head-kept r (Outcome.Current l) = (refl, refl)
head-kept r Outcome.Success = (refl, refl)

-- a response that can be written has a result that fits
writable_fits : (command : ℕ) (r : Response) → response_number command r ≡ 0 → fits command r.status r.outcome ≡ true
unfolding response_number first_of response_fits
writable_fits command r e = go (served_command command) (leb r.id 4294967295) (is_status r.status) (fits command r.status r.outcome) e
  where
    go : (a b c d : Bool) → cond {A = ℕ} (not a) 4 (cond (not (b && (c && d))) 3 0) ≡ 0 → d ≡ true
    go false b c d e = absurd (omega arith)
    go true false c d e = absurd (omega arith)
    go true true false d e = absurd (omega arith)
    go true true true false e = absurd (omega arith)
    go true true true true e = refl

same-response : {r : Response} {i n : ℕ} {o : Outcome} → i ≡ r.id → n ≡ r.status → o ≡ r.outcome → ◌≡◌ {A = Response} (record { id = i; status = n; outcome = o }) r
same-response a b c = rw (a, b, c)

pub response_kept : ResponseKept
unfolding response_of fits
response_kept command r e =
    let k = head-kept r r.outcome in
    same-response k.0 k.1 (outcome_kept command r r.outcome (stands command r.status) (writable_fits command r e))

pub answer-plain : AnswerPlain
answer-plain command bytes r e = ap (λ (q : Response). flat_response q q.outcome) (response_kept command r (response-writable command bytes r e))

pub response_in-words : ResponseInWords
unfolding response_in response_words response_values
response_in-words p = rw (mark_kept p.result, mark_kept p.applied)

pub flat-answer_reads_back : FlatAnswerReadsBack
unfolding response_words_after response_values_after
flat-answer_reads_back command p ws vs k e = rw (response_reads_back command (response_of command p) e, k) (refl, refl, refl)

pub response_refused_whole : ResponseRefusedWhole
unfolding response_words_after response_values_after
response_refused_whole (Answer.Is r) ws vs n = absurd (n refl)
response_refused_whole (Answer.Refused m) ws vs n = (refl, refl)
