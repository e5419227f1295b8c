-- A response, from its parts. Assumes nothing.
use Rattle.std.specs.Prelude
use Rattle.std.specs.Prelude.{None, Some}
use Prim.Native.Nat.{ℕ}
use mathlib.Core.Path.{◌≡◌, refl, ap, ◌∙◌}
use mathlib.Core.Bool.{Bool, true, false, cond}
use mathlib.Core.List.{List}
use mathlib.Core.Option
use mathlib.Core.Option.{Option, some, none, bind}
use native.Mathlib.Omega.{arith}
use lib.Dec.{eqb}
use Rattle.wire_cbor.specs.Item.{Item, Pairs, payload_of, is_some}
use Rattle.wire_cbor.specs.Find.{value_of}
use Rattle.wire_cbor.specs.Scan.{key_head_of, pairs_in, followed, map_at, key_heads_of, words_of}
use Rattle.wire_messages.specs.declared.LimitResult.{LimitResult}
use Rattle.wire_messages.specs.declared.SetpointResult.{SetpointResult}
use Rattle.wire_messages.specs.declared.CurrentResult.{CurrentResult}
use Rattle.wire_messages.specs.declared.Outcome.{Outcome}
use Rattle.wire_messages.specs.declared.Response.{Response}
use Rattle.wire_prefix.specs.Prefix.{framed, payload_in}
use Rattle.wire_fields.specs.Fields.{number_up_to, map_in, needed, most32, most_value, success_in}
use Rattle.wire_messages.specs.Numbers.{served_command}
use Rattle.wire_responses.specs.Responses.{is_status, stands, status_in, limit_result_in, setpoint_result_in, current_result_in, outcome_in}
use Rattle.wire_responses.specs.Responses.{no_result, result_in, response_in, answer_of, answer_in, answer_from, read_response}
use Rattle.wire_fields.specs.KeyHeads.{found, when_ok, given, and_then, Shown, Inside}
use Rattle.wire_fields.specs.Seen.{uint_read, map_seen}
use Rattle.wire_responses.specs.KeyHeads.{result_path, InResult, OutcomeReads, ResultReads, BodyReads, result_from}
use Rattle.wire_responses.specs.Seen.{limit_result_seen, setpoint_result_seen, current_result_seen, outcome_seen, result_seen, status_seen, response_seen, answer_seen}
use Rattle.wire_responses.specs.declared.reading.Answer.{Answer}
use Rattle.wire_fields.proofs.Joined.{is-some, is_none, via}
use Rattle.wire_fields.proofs.BySeen.{found_given, bind_given, uint_at, amount_at, truth_at, success_at, map_at_head, currents_at}
use Rattle.wire_fields.proofs.Parts.{shown, top}

-- NOTHING
absent-key_head : (o : Option Item) → no_result o ≡ found (eqb (key_head_of o).major 8) Outcome.Nothing
unfolding key_head_of
absent-key_head none = refl
absent-key_head (some (Item.uint v)) = refl
absent-key_head (some (Item.nint v)) = refl
absent-key_head (some (Item.bytes b)) = refl
absent-key_head (some (Item.text b)) = refl
absent-key_head (some (Item.array is)) = refl
absent-key_head (some (Item.map m)) = refl
absent-key_head (some (Item.simple v)) = refl

-- an answer kept as F makes it
map_given : {X Y : Type 0} (F : X → Y) (r : Prelude.Option X) → Option.map F (given r) ≡ given (and_then r (λ x. Some (F x)))
map_given F (Some x) = refl
map_given F None = refl

given_again : (r : Prelude.Option Outcome) → r ≡ result_from (given r)
given_again (Some o) = refl
given_again None = refl

answer_given : (r : Prelude.Option Response) → answer_seen r ≡ answer_of (given r)
answer_given (Some x) = refl
answer_given None = refl

success_given : (b : Bool) → Option.map (λ (t : Bool). Outcome.Success) (given (when_ok b true)) ≡ given (when_ok b Outcome.Success)
success_given true = refl
success_given false = refl

-- BY WHAT IS SEEN: each reader is that of the definition
absent_at : (o : Option Item) → no_result o ≡ given (when_ok (eqb (key_head_of o).major 8) Outcome.Nothing)
absent_at o = absent-key_head o ∙ found_given _ _

status_at : (o : Option Item) → status_in o ≡ given (and_then (uint_read 14 (key_head_of o)) (λ s. when_ok (is_status s) s))
unfolding status_in
status_at o = bind_given _ _ _ (uint_at 14 o) (λ s. found_given (is_status s) s)

-- an outcome, from the results
module _ (c : ℕ) (m : Pairs) (l : Prelude.Option LimitResult) (t : Prelude.Option SetpointResult) (u : Prelude.Option CurrentResult) (b : Bool)
    (le : limit_result_in m ≡ given l) (te : setpoint_result_in m ≡ given t) (ue : current_result_in m ≡ given u) (be : success_in (value_of m 1) ≡ given (when_ok b true)) where
  abbrev made : Prelude.Option Outcome
  made =
      cond (eqb c 1) (and_then l (λ x. Some (Outcome.Limit x)))
      (cond (eqb c 3) (and_then t (λ x. Some (Outcome.Setpoint x))) (cond (eqb c 5) (and_then u (λ x. Some (Outcome.Current x))) (when_ok b Outcome.Success)))

  outcome_made : outcome_in c m ≡ given made
  unfolding outcome_in
  outcome_made = rw (le, te, ue, be) (go (eqb c 1) (eqb c 3) (eqb c 5)) where
    go : (p q r : Bool) → cond p (Option.map Outcome.Limit (given l)) (cond q (Option.map Outcome.Setpoint (given t))
        (cond r (Option.map Outcome.Current (given u)) (Option.map (λ (x : Bool). Outcome.Success) (given (when_ok b true)))))
        ≡ given (cond p (and_then l (λ x. Some (Outcome.Limit x))) (cond q (and_then t (λ x. Some (Outcome.Setpoint x)))
        (cond r (and_then u (λ x. Some (Outcome.Current x))) (when_ok b Outcome.Success))))
    go true q r = map_given _ l
    go false true r = map_given _ t
    go false false true = map_given _ u
    go false false false = success_given b

module _ (ws : List ℕ) where
  pub limit_reads : Inside ws 1 limit_result_in (limit_result_seen ws)
  unfolding Inside limit_result_in limit_result_seen
  limit_reads path ps h =
      let at = λ (k : ℕ). shown ws path ps h 1 k in
      rw (at 1 (omega arith) (omega arith), at 2 (omega arith) (omega arith), at 3 (omega arith) (omega arith), at 4 (omega arith) (omega arith), at 5 (omega arith) (omega arith))
      (bind_given _ _ _ (truth_at _) (λ a. bind_given _ _ _ (uint_at 4 _) (λ s. bind_given _ _ _ (amount_at most_value _) (λ c. bind_given _ _ _ (amount_at most_value _)
      (λ p. bind_given _ _ _ (amount_at 4 _) (λ r. refl))))))

  pub setpoint_reads : Inside ws 1 setpoint_result_in (setpoint_result_seen ws)
  unfolding Inside setpoint_result_in setpoint_result_seen
  setpoint_reads path ps h =
      let at = λ (k : ℕ). shown ws path ps h 1 k in
      rw (at 1 (omega arith) (omega arith), at 2 (omega arith) (omega arith), at 3 (omega arith) (omega arith))
      (bind_given _ _ _ (success_at _) (λ t. bind_given _ _ _ (amount_at most_value _) (λ c. bind_given _ _ _ (amount_at most_value _) (λ p. refl))))

  -- the phases stand at the second level of the path
  pub current_reads : InResult ws current_result_in (current_result_seen ws)
  unfolding InResult current_result_in current_result_seen map_at followed
  current_reads ps h =
      let at = shown ws result_path ps h in
      rw (at 1 1 (omega arith) (omega arith), at 1 2 (omega arith) (omega arith), at 2 0 (omega arith) (omega arith), at 2 1 (omega arith) (omega arith), at 2 2 (omega arith) (omega arith))
      (bind_given _ _ _ (success_at _) (λ t. currents_at most_value _))

  module _ (c : ℕ) (ps : Pairs) (h : Shown ws result_path ps) where
    outcome_given : outcome_in c (map_at 1 result_path ps) ≡ given (outcome_seen ws c)
    unfolding outcome_seen Inside InResult
    outcome_given =
        outcome_made c (map_at 1 result_path ps) _ _ _ _ (limit_reads result_path ps h) (setpoint_reads result_path ps h) (current_reads ps h)
        (rw (shown ws result_path ps h 1 1 (omega arith) (omega arith)) (success_at _))

    result_given : (status : ℕ) → result_in c status (value_of ps 3) ≡ given (result_seen ws c status)
    unfolding result_in result_seen bind map_at followed
    result_given status = rw (top ws result_path ps h 3 (omega arith)) (go (stands c status)) where
      o : Option Item
      o = value_of ps 3

      there : (b : Bool) → bind (found b (pairs_in o)) (outcome_in c) ≡ given (cond b (outcome_seen ws c) None)
      there true = outcome_given
      there false = refl

      go : (b : Bool) → cond b (bind (needed map_in o) (outcome_in c)) (no_result o)
          ≡ given (cond b (cond (map_seen (key_head_of o)) (outcome_seen ws c) None) (when_ok (eqb (key_head_of o).major 8) Outcome.Nothing))
      go true = rw (map_at_head o) (there (map_seen (key_head_of o)))
      go false = absent_at o

    pub response_given : response_in c ps ≡ given (response_seen ws c)
    unfolding response_in response_seen status_seen
    response_given =
        rw (top ws result_path ps h 1 (omega arith), top ws result_path ps h 2 (omega arith))
        (bind_given _ _ _ (uint_at most32 _) (λ i. bind_given _ _ _ (status_at _) (λ s. bind_given _ _ _ (result_given s) (λ o. refl))))

  pub outcome_reads : (c : ℕ) → OutcomeReads ws c (outcome_seen ws c)
  unfolding OutcomeReads
  outcome_reads c ps h = rw (outcome_given c ps h) (given_again _)

  pub result_reads : (c status : ℕ) → ResultReads ws c status (result_seen ws c status)
  unfolding ResultReads
  result_reads c status ps h = rw (result_given c ps h status) (given_again _)

  pub body_reads : (c : ℕ) → BodyReads ws c (answer_seen (response_seen ws c))
  unfolding BodyReads
  body_reads c ps h = rw (response_given c ps h) (answer_given _)

-- a response by its parts
pub all_parts : (c : ℕ) (ps : Pairs) (i : ℕ) → needed (number_up_to most32) (value_of ps 1) ≡ some i → (n : ℕ) → status_in (value_of ps 2) ≡ some n
    → (o : Outcome) → result_in c n (value_of ps 3) ≡ some o → response_in c ps ≡ some (record { id = i; status = n; outcome = o })
unfolding response_in bind
all_parts c ps i e n f o g = rw (e, f, g) refl

-- FRAMES
pub answer-map_of : (c : ℕ) (frame : List ℕ) (i : Item) (m : Pairs) → framed frame ≡ true → payload_of (payload_in frame) ≡ some i → map_in i ≡ some m → answer_from c frame ≡ answer_of (response_in c m)
unfolding answer_from answer_in bind
answer-map_of c frame i m x y z = rw (x, y, z) refl

-- what is no map has no small key
no_map : (c : ℕ) (i : Item) → answer_of (response_in c (pairs_in (some i))) ≡ answer_of (bind (map_in i) (response_in c))
unfolding map_in bind response_in needed value_of
no_map c (Item.uint v) = refl
no_map c (Item.nint v) = refl
no_map c (Item.bytes b) = refl
no_map c (Item.text b) = refl
no_map c (Item.array is) = refl
no_map c (Item.map m) = refl
no_map c (Item.simple v) = refl

module _ (c : ℕ) (frame : List ℕ) (b : Bool) (be : b ≡ framed frame) where
  pub not-framed : b ≡ false → Answer.Refused 1 ≡ answer_from c frame
  unfolding answer_from
  not-framed y = rw (via be y) refl

  module _ (y : b ≡ true) (p : List ℕ) (pe : p ≡ payload_in frame) (t : Bool) (te : t ≡ is_some (payload_of p)) where
    tested : t ≡ is_some (payload_of (payload_in frame))
    tested = te ∙ ap (λ (q : List ℕ). is_some (payload_of q)) pe

    pub not-item : t ≡ false → Answer.Refused 2 ≡ answer_from c frame
    unfolding answer_from answer_in
    not-item z = rw (via be y, is_none (payload_of (payload_in frame)) (via tested z)) refl

    -- the payload is one item, of which the heads are seen
    module _ (ws : List ℕ) (e : ws ≡ words_of (key_heads_of result_path (payload_of p))) (r : Answer) (h : BodyReads ws c r) where
      seen : (i : Item) → payload_of (payload_in frame) ≡ some i → r ≡ answer_from c frame
      unfolding answer_from answer_in BodyReads Shown key_heads_of
      seen i x = h (pairs_in (some i)) (e ∙ ap (λ (o : Option Item). words_of (key_heads_of result_path o)) (ap payload_of pe ∙ x)) ∙ no_map c i ∙ rw (via be y, x) refl

      pub is_item : t ≡ true → r ≡ answer_from c frame
      is_item z = let x = is-some (payload_of (payload_in frame)) (via tested z) in seen x.0 x.1

pub named : (c : ℕ) (frame : List ℕ) (b : Bool) → b ≡ served_command c → b ≡ true → (r : Answer) → r ≡ answer_from c frame → r ≡ read_response c frame
unfolding read_response
named c frame b e y r h = h ∙ rw (via e y) refl

pub not_named : (c : ℕ) (frame : List ℕ) (b : Bool) → b ≡ served_command c → b ≡ false → Answer.Refused 4 ≡ read_response c frame
unfolding read_response
not_named c frame b e y = rw (via e y) refl
