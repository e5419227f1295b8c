-- The bytes of responses, from their parts. Assumes nothing.
use Prim.Native.Nat.{ℕ, ◌+◌}
use mathlib.Core.Path.{◌≡◌, refl, sym, ap, ◌∙◌}
use mathlib.Core.Bool.{true}
use mathlib.Core.List.{List, [], ◌∷◌, ◌++◌, append_assoc}
use mathlib.Core.Option.{some}
use native.Mathlib.Omega.{arith}
use Rattle.wire_heads.specs.Head.{head_bytes}
use Rattle.wire_cbor.specs.Item.{Item, encode, encode_pairs, count_pairs}
use Rattle.wire_messages.specs.declared.Response.{Response}
use Rattle.wire_messages.specs.declared.LimitResult.{LimitResult}
use Rattle.wire_messages.specs.declared.SetpointResult.{SetpointResult}
use Rattle.wire_messages.specs.declared.CurrentResult.{CurrentResult}
use Rattle.wire_fields.specs.Fields.{present, amount_item, truth_item, map_item}
use Rattle.wire_fields.specs.ByPhase.{currents_item}
use Rattle.wire_responses.specs.WrittenResponses.{limit_fields, setpoint_fields, current_fields, clear_fields, outcome_item, response_fields, response_item}
use Rattle.wire_fields.specs.Puts.{pair_bytes, field_bytes, pairs_of}
use Rattle.wire_fields.proofs.Added.{under-key, one_count, map-bytes, fields_more, fields_one, count-more, count_none}

module _ (r : Response) where
  pub response_bytes : (n : ℕ) → n ≡ pairs_of (outcome_item r.outcome)
      → ((head_bytes 5 (2 + n) ++ field_bytes 1 (some (Item.uint r.id))) ++ field_bytes 2 (some (Item.uint r.status))) ++ field_bytes 3 (outcome_item r.outcome) ≡ encode (response_item r)
  unfolding response_item response_fields
  response_bytes n e =
      let c : count_pairs (present (response_fields r)) ≡ 2 + n = rw (count-more, count-more, count-more, count_none) (omega arith) in
      rw (map-bytes, c, fields_more, fields_more, fields_one) (simp append_assoc)

module _ (l : LimitResult) where
  pub limit-count : (x y z : ℕ) → x ≡ pairs_of (amount_item l.consumption) → y ≡ pairs_of (amount_item l.production) → z ≡ pairs_of (amount_item l.reason)
      → 2 + x + y + z ≡ count_pairs (present (limit_fields l))
  unfolding limit_fields
  limit-count x y z a b c = rw (count-more, count-more, count-more, count-more, count-more, count_none) (omega arith)

  limit-pairs : encode_pairs (present (limit_fields l))
      ≡ field_bytes 1 (some (truth_item l.applied)) ++ (field_bytes 2 (some (Item.uint l.state))
      ++ (field_bytes 3 (amount_item l.consumption) ++ (field_bytes 4 (amount_item l.production) ++ field_bytes 5 (amount_item l.reason))))
  unfolding limit_fields
  limit-pairs = rw (fields_more, fields_more, fields_more, fields_more, fields_one) refl

  pub limit-bytes : (n : ℕ) → n ≡ count_pairs (present (limit_fields l))
      → ((((pair_bytes 3 5 n ++ field_bytes 1 (some (truth_item l.applied))) ++ field_bytes 2 (some (Item.uint l.state))) ++ field_bytes 3 (amount_item l.consumption))
      ++ field_bytes 4 (amount_item l.production)) ++ field_bytes 5 (amount_item l.reason) ≡ field_bytes 3 (map_item (limit_fields l))
  limit-bytes n e = rw (← under-key 3 n (limit_fields l) e, limit-pairs) (simp append_assoc)

module _ (l : SetpointResult) where
  pub setpoint-count : (x y : ℕ) → x ≡ pairs_of (amount_item l.consumption) → y ≡ pairs_of (amount_item l.production) → 1 + x + y ≡ count_pairs (present (setpoint_fields l))
  unfolding setpoint_fields
  setpoint-count x y a b = rw (count-more, count-more, count-more, count_none) (omega arith)

  setpoint-pairs : encode_pairs (present (setpoint_fields l)) ≡ field_bytes 1 (some (truth_item true)) ++ (field_bytes 2 (amount_item l.consumption) ++ field_bytes 3 (amount_item l.production))
  unfolding setpoint_fields
  setpoint-pairs = rw (fields_more, fields_more, fields_one) refl

  pub setpoint-bytes : (n : ℕ) → n ≡ count_pairs (present (setpoint_fields l))
      → ((pair_bytes 3 5 n ++ field_bytes 1 (some (truth_item true))) ++ field_bytes 2 (amount_item l.consumption)) ++ field_bytes 3 (amount_item l.production)
      ≡ field_bytes 3 (map_item (setpoint_fields l))
  setpoint-bytes n e = rw (← under-key 3 n (setpoint_fields l) e, setpoint-pairs) (simp append_assoc)

pub current-bytes : (l : CurrentResult) → (pair_bytes 3 5 2 ++ field_bytes 1 (some (truth_item true))) ++ field_bytes 2 (currents_item l) ≡ field_bytes 3 (map_item (current_fields l))
unfolding current_fields currents_item
current-bytes l =
    let n : 2 ≡ count_pairs (present (current_fields l)) = rw (count-more, count-more, count_none) (omega arith) in
    rw (← under-key 3 2 (current_fields l) n, fields_more, fields_one) (simp append_assoc)

pub clear-bytes : pair_bytes 3 5 1 ++ field_bytes 1 (some (truth_item true)) ≡ field_bytes 3 (map_item clear_fields)
unfolding clear_fields
clear-bytes =
    ap (λ (x : List ℕ). pair_bytes 3 5 1 ++ x) (sym (fields_one 1 (some (truth_item true)))) ∙ under-key 3 1 ((1, some (truth_item true)) ∷ []) (one_count 1 1 (some (truth_item true)) refl)
