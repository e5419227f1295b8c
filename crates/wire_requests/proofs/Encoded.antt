-- The bytes of requests, from their parts. Assumes nothing.
use Prim.Native.Nat.{ℕ, ◌+◌, ◌≤◌}
use Rattle.std.specs.Prelude.{None, Some}
use mathlib.Core.Path.{◌≡◌, refl}
use mathlib.Core.List.{[], ◌∷◌, ◌++◌, append_assoc}
use mathlib.Core.Logic.{◌⊎◌, inl, inr}
use mathlib.Core.Option.{some}
use native.Mathlib.Omega.{arith}
use Rattle.wire_heads.specs.Head.{head_bytes}
use Rattle.wire_cbor.specs.Item.{Item, encode, encode_pairs, count_pairs}
use Rattle.wire_messages.specs.Numbers.{wire_number}
use Rattle.wire_messages.specs.Options.{Amount}
use Rattle.wire_messages.specs.declared.CurrentLimits.{CurrentLimits}
use Rattle.wire_messages.specs.Options.{Aim}
use Rattle.wire_messages.specs.declared.Command.{Command}
use Rattle.wire_messages.specs.declared.Request.{Request}
use Rattle.wire_fields.specs.Fields.{present, value_item, aim_item, amount_item}
use Rattle.wire_fields.specs.ByPhase.{phases_item}
use Rattle.wire_requests.specs.WrittenSettings.{duration_amount, setting_fields, current_limit_fields}
use Rattle.wire_messages.specs.declared.set_parameters.Setting.{Setting}
use Rattle.wire_requests.specs.WrittenRequests.{command_fields, request_fields, request_item}
use Rattle.wire_fields.specs.Puts.{pair_bytes, field_bytes, pairs_of}
use Rattle.wire_fields.proofs.Added.{pairs_small, under-key, map-bytes, fields_more, fields_one, count-more, count_none}

module _ (s : Setting) where
  pub setting_count : (x y z : ℕ) → x ≡ pairs_of (value_item s.consumption) → y ≡ pairs_of (value_item s.production) → z ≡ pairs_of (amount_item s.duration)
      → x + y + z + 1 ≡ count_pairs (present (setting_fields s))
  unfolding setting_fields
  setting_count x y z a b c = rw (count-more, count-more, count-more, count-more, count_none) (omega arith)

  pub setting_bytes :
      ((field_bytes 1 (value_item s.consumption) ++ field_bytes 2 (value_item s.production)) ++ field_bytes 3 (amount_item s.duration)) ++ field_bytes 4 (some (Item.uint s.cause))
      ≡ encode_pairs (present (setting_fields s))
  unfolding setting_fields
  setting_bytes = rw (fields_more, fields_more, fields_more, fields_one) (simp append_assoc)

module _ (l : CurrentLimits) (a : Amount) (e : a ≡ duration_amount l.duration) where
  pub duration_few : (z : ℕ) → z ≡ pairs_of (amount_item a) → z ≤ 1
  duration_few z c = omega (arith, c, pairs_small (amount_item a))

  pub current-limits_count : (z : ℕ) → z ≡ pairs_of (amount_item a) → 3 + z ≡ count_pairs (present (current_limit_fields l))
  unfolding current_limit_fields phases_item
  current-limits_count z c = rw (← e, count-more, count-more, count-more, count-more, count_none) (omega arith)

  pub current-limits_bytes :
      ((field_bytes 1 (phases_item l.phases) ++ field_bytes 2 (some (Item.uint l.direction))) ++ field_bytes 3 (amount_item a)) ++ field_bytes 4 (some (Item.uint l.cause))
      ≡ encode_pairs (present (current_limit_fields l))
  unfolding current_limit_fields
  current-limits_bytes = rw (← e, fields_more, fields_more, fields_more, fields_one) (simp append_assoc)

-- a direction that a clear names is written as an amount
aim-amount : (a : Aim) → aim_item a ≡ amount_item a
unfolding aim_item amount_item
aim-amount None = refl
aim-amount (Some d) = refl

pub clear_is : (c : Command) (a : Aim) → (c ≡ Command.ClearLimit a) ⊎ ((c ≡ Command.ClearSetpoint a) ⊎ (c ≡ Command.ClearCurrentLimits a)) → command_fields c ≡ (1, amount_item a) ∷ []
unfolding command_fields
clear_is c a (inl e) = rw (e, aim-amount a) refl
clear_is c a (inr (inl e)) = rw (e, aim-amount a) refl
clear_is c a (inr (inr e)) = rw (e, aim-amount a) refl

module _ (r : Request) where
  pub request_bytes : (n k : ℕ) → k ≡ wire_number r.command → n ≡ count_pairs (present (command_fields r.command))
      → (((((head_bytes 5 5 ++ field_bytes 1 (some (Item.uint r.id))) ++ field_bytes 2 (some (Item.uint r.endpoint))) ++ field_bytes 3 (some (Item.uint r.feature)))
      ++ field_bytes 4 (some (Item.uint k))) ++ pair_bytes 5 5 n)
      ++ encode_pairs (present (command_fields r.command))
      ≡ encode (request_item r)
  unfolding request_item request_fields
  request_bytes n k e f =
      rw (
        map-bytes,
        count-more,
        count-more,
        count-more,
        count-more,
        count-more,
        count_none,
        fields_more,
        fields_more,
        fields_more,
        fields_more,
        fields_one,
        ← under-key 5 n (command_fields r.command) f,
        e,
      ) (simp append_assoc)
