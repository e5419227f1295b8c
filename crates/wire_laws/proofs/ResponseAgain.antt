-- A response that was read can be written, and is the same bytes. Assumes nothing.
use Prim.Native.Nat.{ℕ, ◌≤◌}
use mathlib.Core.Path.{◌≡◌, refl, sym, ap, subst, ◌∙◌}
use mathlib.Core.Bool.{Bool, true, false, cond, ◌||◌}
use mathlib.Core.List.{List}
use mathlib.Core.Option
use mathlib.Core.Option.{Option, some, none, bind}
use native.Mathlib.Omega.{arith}
use lib.Dec.{leb, eqb}
use borrow.Author.Tests.{leb-true, eqb-true, eqb-false, le-leb, eq-eqb}
use Rattle.wire_cbor.specs.Item.{Item, Pairs, payload_of, Ok, OkPairs, levels}
use Rattle.wire_cbor.specs.Find.{value_of}
use Rattle.refusals.specs.Refusals.{first_of}
use Rattle.wire_messages.specs.Options.{Amount}
use Rattle.wire_messages.specs.declared.LimitResult.{LimitResult}
use Rattle.wire_messages.specs.declared.SetpointResult.{SetpointResult}
use Rattle.wire_messages.specs.declared.CurrentResult.{CurrentResult}
use Rattle.wire_messages.specs.declared.Outcome.{Outcome}
use Rattle.wire_messages.specs.declared.Response.{Response}
use Rattle.wire_prefix.specs.Prefix.{framed, payload_in}
use Rattle.wire_fields.specs.Fields.{present, number_up_to, truth, map_in, needed, most32, most_value, amount_in, success_in}
use Rattle.wire_fields.specs.ByPhase.{currents_in}
use Rattle.wire_messages.specs.Numbers.{served_command}
use Rattle.wire_responses.specs.Responses.{is_status, only_status, stands, status_in, limit_result_in, setpoint_result_in, current_result_in, clear_result_in}
use Rattle.wire_responses.specs.Responses.{outcome_in, no_result, result_in, response_in, answer_of, answer_in, answer_from, read_response}
use Rattle.wire_responses.specs.WrittenResponses.{limit_fields, setpoint_fields, current_fields, clear_fields, outcome_item, response_fields, response_item}
use Rattle.wire_responses.specs.WrittenResponses.{limit_in_range, setpoint_in_range, current_in_range, goes_with, fits, response_fits, response_number}
use Rattle.wire_output.specs.Writing.{item_frame}
use Rattle.wire_laws.specs.RoundTrips.{KeysTo, result_keys, PlainResponse, ResponseWritable, ResponseWritesAgain}
use Rattle.wire_responses.specs.declared.reading.Answer.{Answer}
use Rattle.wire_fields.proofs.Joined.{and_left, and_right}
use Rattle.wire_laws.proofs.Maps.{same_map, no_known}
use Rattle.wire_laws.proofs.FieldsAgain.{no_value, same-inside, bind-parts, map-part, uint_again, map-again, truth-again, success_again, amount-again}
use Rattle.wire_laws.proofs.ResponseBack.{limit-ascend, limit-ok, setpoint-ascend, setpoint-ok, current-ascend, clear-ascend, clear-ok, result_ok, response_ascend, response_ok}
use Rattle.wire_laws.proofs.Trips.{item_in, frame-again, value_ok, map-ok}
use Rattle.wire_laws.proofs.PhaseTrips.{held-ok, amounts_again}
use Rattle.wire_laws.proofs.RequestAgain.{six}

-- THE RESULTS
-- a result that was read goes with its command, and its fields are the pairs where no key is unknown
pub record Again (c : ℕ) (ps : Pairs) (o : Outcome) : Type 0 where
  pub goes : goes_with c o ≡ true
  pub same : (lo d : ℕ) → OkPairs ps lo d → KeysTo (result_keys c) ps → outcome_item o ≡ some (Item.map ps)

module _ (ps : Pairs) where
  limit-made : (a : Bool) (s : ℕ) (c p r : Amount) → needed truth (value_of ps 1) ≡ some a → needed (number_up_to 4) (value_of ps 2) ≡ some s → amount_in most_value (value_of ps 3) ≡ some c
      → amount_in most_value (value_of ps 4) ≡ some p → amount_in 4 (value_of ps 5) ≡ some r
      → Again 1 ps (Outcome.Limit (record { applied = a; state = s; consumption = c; production = p; reason = r }))
  unfolding goes_with outcome_item limit_in_range limit_fields
  limit-made a s c p r ea es ec ep er =
      let y = uint_again 4 (value_of ps 2) s es in
      let u = amount-again most_value (value_of ps 3) c ec in
      let v = amount-again most_value (value_of ps 4) p ep in
      let w = amount-again 4 (value_of ps 5) r er in
      let l : LimitResult = record { applied = a; state = s; consumption = c; production = p; reason = r } in
      let g : limit_in_range l ≡ true = rw (le-leb s 4 y.1, u.1, v.1, w.1) in
      record {
        goes = g;
        same = λ lo d ok keys. ap (λ (m : Pairs). some (Item.map m)) (same_map ps (limit_fields l) lo d ok (limit-ascend l) (limit-ok l g d) (
          truth-again (value_of ps 1) a ea,
          (y.0, (u.0, (v.0, (w.0, tt)))),
        ) (λ j h. keys j (no_known (limit_fields l) j (refl, (refl, (refl, (refl, (refl, tt))))) h)));
      }

  again-limit : (l : LimitResult) → limit_result_in ps ≡ some l → Again 1 ps (Outcome.Limit l)
  unfolding limit_result_in
  again-limit l e =
      let a = bind-parts (needed truth (value_of ps 1)) _ l e in
      let b = bind-parts (needed (number_up_to 4) (value_of ps 2)) _ l a.2 in
      let c = bind-parts (amount_in most_value (value_of ps 3)) _ l b.2 in
      let d = bind-parts (amount_in most_value (value_of ps 4)) _ l c.2 in
      let f = bind-parts (amount_in 4 (value_of ps 5)) _ l d.2 in
      subst (λ (x : LimitResult). Again 1 ps (Outcome.Limit x)) (same-inside f.2) (limit-made a.0 b.0 c.0 d.0 f.0 a.1 b.1 c.1 d.1 f.1)

  setpoint-made : (t : Bool) (c p : Amount) → success_in (value_of ps 1) ≡ some t → amount_in most_value (value_of ps 2) ≡ some c → amount_in most_value (value_of ps 3) ≡ some p
      → Again 3 ps (Outcome.Setpoint (record { consumption = c; production = p }))
  unfolding goes_with outcome_item setpoint_in_range setpoint_fields
  setpoint-made t c p et ec ep =
      let u = amount-again most_value (value_of ps 2) c ec in
      let v = amount-again most_value (value_of ps 3) p ep in
      let l : SetpointResult = record { consumption = c; production = p } in
      let g : setpoint_in_range l ≡ true = rw (u.1, v.1) in
      record {
        goes = g;
        same = λ lo d ok keys. ap (λ (m : Pairs). some (Item.map m)) (same_map ps (setpoint_fields l) lo d ok (setpoint-ascend l) (setpoint-ok l g d) (
          success_again (value_of ps 1) t et,
          (u.0, (v.0, tt)),
        ) (λ j h. keys j (no_known (setpoint_fields l) j (refl, (refl, (refl, tt))) h)));
      }

  again-setpoint : (l : SetpointResult) → setpoint_result_in ps ≡ some l → Again 3 ps (Outcome.Setpoint l)
  unfolding setpoint_result_in
  again-setpoint l e =
      let a = bind-parts (success_in (value_of ps 1)) _ l e in
      let b = bind-parts (amount_in most_value (value_of ps 2)) _ l a.2 in
      let c = bind-parts (amount_in most_value (value_of ps 3)) _ l b.2 in
      subst (λ (x : SetpointResult). Again 3 ps (Outcome.Setpoint x)) (same-inside c.2) (setpoint-made a.0 b.0 c.0 a.1 b.1 c.1)

  success_same : (t : Bool) → success_in (value_of ps 1) ≡ some t → (lo d : ℕ) → OkPairs ps lo d → KeysTo 1 ps → some (Item.map (present clear_fields)) ≡ some (Item.map ps)
  unfolding clear_fields
  success_same t e lo d ok keys =
      ap (λ (m : Pairs). some (Item.map m)) (same_map ps clear_fields lo d ok clear-ascend (clear-ok d) (success_again (value_of ps 1) t e, tt) (λ j h. keys j (no_known clear_fields j (refl, tt) h)))

  current-made : (t : Bool) (l : CurrentResult) → success_in (value_of ps 1) ≡ some t → currents_in most_value (value_of ps 2) ≡ some l → Again 5 ps (Outcome.Current l)
  unfolding goes_with outcome_item current_in_range current_fields
  current-made t l et el =
      let s = success_again (value_of ps 1) t et in
      let u = amounts_again most_value (value_of ps 2) l el in
      record {
        goes = rw (u.range.0, u.range.1, u.range.2);
        same = λ lo d ok keys.
            let p = u.same d (held-ok ps lo d 2 _ ok refl) in
            ap (λ (m : Pairs). some (Item.map m))
            (same_map ps (current_fields l) lo d ok (current-ascend l) (omega arith, held-ok ps lo d 1 _ ok s, (omega arith, held-ok ps lo d 2 _ ok p, tt))
            (s, (p, tt)) (λ j h. keys j (no_known (current_fields l) j (refl, (refl, tt)) h)));
      }

  again-current : (l : CurrentResult) → current_result_in ps ≡ some l → Again 5 ps (Outcome.Current l)
  unfolding current_result_in
  again-current l e = let a = bind-parts (success_in (value_of ps 1)) _ l e in current-made a.0 l a.1 a.2

  -- a served command that is none of 1, 3 and 5 is a clear
  again-clear : (c : ℕ) → (eqb c 2 || eqb c 4 || eqb c 6) ≡ true → result_keys c ≡ 1 → (o : Outcome) → clear_result_in ps ≡ some o → Again c ps o
  unfolding goes_with outcome_item
  again-clear c g k o e =
      let p = map-part (λ (t : Bool). Outcome.Success) (success_in (value_of ps 1)) o e in
      subst (λ (x : Outcome). Again c ps x) p.2
      (record { goes = g; same = λ lo d ok keys. success_same p.0 p.1 lo d ok (subst (λ (n : ℕ). KeysTo n ps) k keys) })

  pub outcome_again : (c : ℕ) (o : Outcome) → served_command c ≡ true → outcome_in c ps ≡ some o → Again c ps o
  unfolding served_command outcome_in
  outcome_again c o s e = go (eqb c 1) (eqb c 3) (eqb c 5) refl refl refl e
    where
      even : (a : eqb c 1 ≡ false) (b : eqb c 3 ≡ false) (d : eqb c 5 ≡ false) → (eqb c 2 || eqb c 4 || eqb c 6) ≡ true
      even a b d = go (eqb c 2) (eqb c 4) refl refl
        where
          go : (x y : Bool) → eqb c 2 ≡ x → eqb c 4 ≡ y → (x || y || eqb c 6) ≡ true
          go true y p q = refl
          go false true p q = refl
          go false false p q =
              let l = leb-true 1 c (and_left _ _ s) in
              let m = leb-true c 6 (and_right (leb 1 c) _ s) in
              eq-eqb c 6 (six c (eqb-false c 1 a) (eqb-false c 2 p) (eqb-false c 3 b) (eqb-false c 4 q) (eqb-false c 5 d) l m)

      one_key : eqb c 1 ≡ false → eqb c 3 ≡ false → eqb c 5 ≡ false → result_keys c ≡ 1
      one_key a b d = rw (a, b, d)

      -- what a reader of that command's result made, as its outcome
      made : {X : Type 0} (make : X → Outcome) (r : Option X) (n : ℕ) → eqb c n ≡ true → ((x : X) → r ≡ some x → Again n ps (make x)) → Option.map make r ≡ some o → Again c ps o
      made make r n a f h =
          let p = map-part make r o h in
          subst (λ (m : ℕ). Again m ps o) (sym (eqb-true c n a)) (subst (λ (x : Outcome). Again n ps x) p.2 (f p.0 p.1))

      go : (p q r : Bool) → eqb c 1 ≡ p → eqb c 3 ≡ q → eqb c 5 ≡ r
          → cond p (Option.map Outcome.Limit (limit_result_in ps))
          (cond q (Option.map Outcome.Setpoint (setpoint_result_in ps)) (cond r (Option.map Outcome.Current (current_result_in ps)) (clear_result_in ps))) ≡ some o
          → Again c ps o
      go true q r a b d h = made Outcome.Limit (limit_result_in ps) 1 a again-limit h
      go false true r a b d h = made Outcome.Setpoint (setpoint_result_in ps) 3 b again-setpoint h
      go false false true a b d h = made Outcome.Current (current_result_in ps) 5 d again-current h
      go false false false a b d h = again-clear c (even a b d) (one_key a b d) o h

-- WHAT STANDS UNDER KEY 3
pub record AgainResult (c n : ℕ) (v : Option Item) (o : Outcome) : Type 0 where
  pub goes : fits c n o ≡ true
  pub same : ((m : Pairs) → v ≡ some (Item.map m) → OkPairs m 0 6 × KeysTo (result_keys c) m) → v ≡ outcome_item o

nothing-again : (c n : ℕ) (v : Option Item) (o : Outcome) → stands c n ≡ false → no_result v ≡ some o → AgainResult c n v o
unfolding fits outcome_item
nothing-again c n none o s e = subst (λ (x : Outcome). AgainResult c n none x) (same-inside e) (record { goes = rw s; same = λ h. refl })
nothing-again c n (some i) o s e = absurd (no_value e)

result_again : (c n : ℕ) (v : Option Item) (o : Outcome) → served_command c ≡ true → result_in c n v ≡ some o → AgainResult c n v o
unfolding result_in fits
result_again c n v o s e = go (stands c n) refl e
  where
    go : (b : Bool) → stands c n ≡ b → cond b (bind (needed map_in v) (outcome_in c)) (no_result v) ≡ some o → AgainResult c n v o
    go true x h =
        let p = bind-parts (needed map_in v) (outcome_in c) o h in
        let a = outcome_again p.0 c o s p.2 in
        let q = map-again v p.0 p.1 in
        record { goes = rw x a.goes; same = λ f. let k = f p.0 q in q ∙ sym (a.same 0 6 k.0 k.1) }
    go false x h = nothing-again c n v o x h

-- THE RESPONSE
pub record ReadFrom (c : ℕ) (ps : Pairs) (r : Response) : Type 0 where
  pub first : (value_of ps 1 ≡ some (Item.uint r.id)) × (r.id ≤ most32)
  pub second : (value_of ps 2 ≡ some (Item.uint r.status)) × (is_status r.status ≡ true)
  pub third : AgainResult c r.status (value_of ps 3) r.outcome

status_again : (v : Option Item) (n : ℕ) → status_in v ≡ some n → (v ≡ some (Item.uint n)) × (is_status n ≡ true)
unfolding status_in
status_again v n e =
    let p = bind-parts (needed (number_up_to 14) v) only_status n e in
    let u = uint_again 14 v p.0 p.1 in
    only p.0 (is_status p.0) refl p.2 u.0
  where
    only : (m : ℕ) (b : Bool) → is_status m ≡ b → cond b (some m) none ≡ some n → v ≡ some (Item.uint m) → (v ≡ some (Item.uint n)) × (is_status n ≡ true)
    only m true x y z = subst (λ (k : ℕ). (v ≡ some (Item.uint k)) × (is_status k ≡ true)) (same-inside y) (z, x)
    only m false x y z = absurd (no_value y)

body_again : (c : ℕ) (ps : Pairs) (r : Response) → served_command c ≡ true → response_in c ps ≡ some r → ReadFrom c ps r
unfolding response_in
body_again c ps r s e =
    let a = bind-parts (needed (number_up_to most32) (value_of ps 1)) _ r e in
    let b = bind-parts (status_in (value_of ps 2)) _ r a.2 in
    let d = bind-parts (result_in c b.0 (value_of ps 3)) _ r b.2 in
    subst (λ (x : Response). ReadFrom c ps x) (same-inside d.2)
    (record { first = uint_again most32 (value_of ps 1) a.0 a.1; second = status_again (value_of ps 2) b.0 b.1; third = result_again c b.0 (value_of ps 3) d.0 s d.1 })

-- THE FRAME
pub record Read (c : ℕ) (frame : List ℕ) (r : Response) : Type 0 where
  pub served : served_command c ≡ true
  pub prefix : framed frame ≡ true
  pub item : Item
  pub pairs : Pairs
  pub payload : payload_of (payload_in frame) ≡ some item
  pub map : map_in item ≡ some pairs
  pub from : ReadFrom c pairs r

no_answer : {r : Response} (x : Answer) → x ≡ Answer.Is r → (n : ℕ) → x ≡ Answer.Refused n → ⊥
no_answer x e n f = let z : ◌≡◌ {A = ℕ} 0 1 = cc in omega arith

response_read : (c : ℕ) (frame : List ℕ) (r : Response) → read_response c frame ≡ Answer.Is r → Read c frame r
unfolding read_response answer_from answer_in bind
response_read c frame r h = go (served_command c) refl h
  where
    in_map_lem : (i : Item) → payload_of (payload_in frame) ≡ some i → framed frame ≡ true → served_command c ≡ true → (m : Pairs) → map_in i ≡ some m → (o : Option Response) → response_in c m ≡ o
        → answer_of o ≡ Answer.Is r → Read c frame r
    in_map_lem i q f s m x (some p) y z = record { served = s; prefix = f; item = i; pairs = m; payload = q; map = x; from = body_again c m r s (y ∙ ap some (is z)) }
      where
        is : Answer.Is p ≡ Answer.Is r → p ≡ r
        is e = cc
    in_map_lem i q f s m x none y z = absurd (no_answer _ z 3 refl)

    in_item : (i : Item) → payload_of (payload_in frame) ≡ some i → framed frame ≡ true → served_command c ≡ true → (o : Option Pairs) → map_in i ≡ o
        → answer_of (bind o (response_in c)) ≡ Answer.Is r → Read c frame r
    in_item i q f s (some m) x y = in_map_lem i q f s m x (response_in c m) refl y
    in_item i q f s none x y = absurd (no_answer _ y 3 refl)

    in_payload : (o : Option Item) → payload_of (payload_in frame) ≡ o → framed frame ≡ true → served_command c ≡ true → answer_in c o ≡ Answer.Is r → Read c frame r
    in_payload (some i) q f s y = in_item i q f s (map_in i) refl y
    in_payload none q f s y = absurd (no_answer _ y 2 refl)

    in_frame : (b : Bool) → framed frame ≡ b → served_command c ≡ true → cond b (answer_in c (payload_of (payload_in frame))) (Answer.Refused 1) ≡ Answer.Is r → Read c frame r
    in_frame true f s y = in_payload (payload_of (payload_in frame)) refl f s y
    in_frame false f s y = absurd (no_answer _ y 1 refl)

    go : (b : Bool) → served_command c ≡ b → cond b (answer_from c frame) (Answer.Refused 4) ≡ Answer.Is r → Read c frame r
    go true s y = in_frame (framed frame) refl s y
    go false s y = absurd (no_answer _ y 4 refl)

pub response-writable : ResponseWritable
unfolding response_number response_fits first_of
response-writable c frame r h =
    let x = response_read c frame r h in
    let f = x.from in
    rw (x.served, le-leb r.id most32 f.first.1, f.second.1, f.third.goes)

same-response : (c : ℕ) (ps : Pairs) (r : Response) → ReadFrom c ps r → Ok (Item.map ps) levels → PlainResponse c ps → response_item r ≡ Item.map ps
unfolding response_item response_fields
same-response c ps r f ok plain =
    let okp : OkPairs ps 0 7 = map-ok ps 7 ok in
    let v : value_of ps 3 ≡ outcome_item r.outcome = f.third.same (λ m e. (map-ok m 6 (value_ok ps 0 7 3 (Item.map m) okp e), plain.result m e)) in
    ap Item.map
    (same_map ps (response_fields r) 0 7 okp (response_ascend r) (response_ok r f.first.1 f.second.1 (result_ok c r.status r.outcome f.third.goes 5))
    (f.first.0, (f.second.0, (v, tt)))
    (λ j h. plain.envelope j (no_known (response_fields r) j (refl, (refl, (refl, tt))) h)))

pub response_writes_again : ResponseWritesAgain
unfolding map_in
response_writes_again c frame ok r ps h it plain =
    let x = response_read c frame r h in
    let i : x.item ≡ Item.map ps = same-inside (sym x.payload ∙ it) in
    let m : x.pairs ≡ ps = same-inside (sym x.map ∙ ap map_in i) in
    let f : ReadFrom c ps r = subst (λ (q : Pairs). ReadFrom c q r) m x.from in
    ap item_frame (same-response c ps r f (item_in frame ok (Item.map ps) it).0 plain) ∙ frame-again frame ok (Item.map ps) it x.prefix
