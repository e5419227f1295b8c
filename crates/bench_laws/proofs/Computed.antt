-- Document 01's example, computed: first which calls the script makes, on any device, then what they answer on bench's.
use Prim.Native.Nat.{ℕ}
use mathlib.Core.Path.{◌≡◌, refl, ap, ◌∙◌}
use mathlib.Core.Bool.{Bool, true, false, cond}
use mathlib.Core.List.{List, [], ◌∷◌, ◌++◌}
use mathlib.Core.Option.{bind}
use native.Mathlib.Omega.{arith}
use lib.Dec.{eqb}
use lib.IntN.{pos}
use lib.ListN.{length}
use borrow.Author.Tests.{le-leb, eqb-true}
use Rattle.wire_bytes.specs.Bytes.{number_at}
use Rattle.text.specs.Text.{digits, width_in, decimal}
use Rattle.text.specs.Pieces.{joined}
use Rattle.bench_records.specs.Kinds.{right_length, right_body}
use Rattle.bench_records.specs.Records.{is_mark, fields_at, good, record_at}
use Rattle.wire_messages.specs.declared.Field.{Field}
use Rattle.wire_messages.specs.declared.Command.{Command}
use Rattle.wire_messages.specs.declared.Request.{Request}
use Rattle.wire_heads.specs.Head.{info_of, width_of, arg_at, head_at}
use Rattle.wire_cbor.specs.Item.{items_at, pairs_at, from_head, item_at, payload_of}
use Rattle.wire_heads.specs.Key.{key_at}
use Rattle.wire_cbor.specs.Find.{value_of}
use Rattle.wire_prefix.specs.Prefix.{framed}
use Rattle.wire_fields.specs.Fields.{number_up_to}
use Rattle.wire_fields.specs.Fields.{truth, map_in, signed, needed, optional, amount_in, value_in}
use Rattle.wire_requests.specs.Requests.{envelope_in, command_in, from_envelope, from_payload, read_request}
use Rattle.wire_messages.specs.Numbers.{served_command, served_at}
use Rattle.wire_requests.specs.Settings.{setting_in, limits_from}
use Rattle.wire_output.specs.Writing.{writing_number}
use Rattle.wire_requests.specs.declared.reading.Reading.{Reading}
use Rattle.kernel.specs.Frame.{response_frame, number_from, obeyed_by, frame_number, frame_after}
use Rattle.device_store.specs.Zones.{up_to, first, any, id_of, rank_of, is_joined, is_up, slot_of, zone_of, held_of, any_joined, any_up}
use Rattle.device_store.specs.Zones.{joined as joined_in}
use Rattle.device_store.specs.Words.{settings_of, held_in, zone_at, zones_of, bit, held_words, put_zone, applied, after, setting_words, fresh}
use Rattle.device_store.specs.Quantities.{low_at, supports}
use Rattle.device_holds.specs.Holds.{claim_of, goes_before, better, winner, in_failsafe, smallest_with, failsafe_value, value_at, present, state_at, shown, values_at}
use Rattle.device_holds.specs.Dues.{zone_dues, held_dues, dues, nearer, nearest}
use Rattle.device_calls.specs.Refusals.{first_of, late}
use Rattle.device_holds.specs.Links.{since_after}
use Rattle.device_calls.specs.Calls.{zone_change, join_number, join_after, move_number, move_after}
use Rattle.device_store.specs.Words.{head_change}
use Rattle.device_rules.specs.Rules.{bad_join}
use Rattle.command_effects.specs.Says.{says, some_of}
use Rattle.command_effects.specs.Content.{unsupported, invalid, too_low, below_the_minimum}
use Rattle.device_calls.specs.Commands.{command_number, command_after, command_answer}
use Rattle.command_effects.specs.Effects.{field_action, action, until_of, done, obeyed}
use Rattle.wire_messages.specs.Statuses.{stands}
use Rattle.command_effects.specs.Outcomes.{is_capped, reason_of, outcome_with}
use Rattle.device_rules.specs.Rules.{bad_maximum, outside, bad_settings}
use Rattle.device_calls.specs.Start.{start_after}
use Rattle.plan.specs.Plan.{rows_from}
use Rattle.device_holds.specs.Alike.{same_number, alike}
use Rattle.plan.specs.Walk.{step, walk}
use Rattle.plan.proofs.Walk.{plan_of-walk}
use Rattle.bench_script.specs.Runs.{call_of, body_of}
use Rattle.bench_script.specs.Answers.{cell, row_pieces}
use Rattle.bench_script.specs.Bench.{bench_settings, numbered, response_room, answered, record_answered, plan_pieces, answered_pieces, ended, behind, played_from, played, script, bench_text}
use Rattle.bench_laws.specs.Example.{frame3, frame9, example_script, zeros, row120, row160, BenchExample}

-- A FRAME THAT IS READ is its command, where there is room for the response
told-number : (n : ℕ) (frame : List ℕ) → writing_number n frame (length frame) ≡ n
unfolding writing_number first_of
told-number n frame = rw (le-leb (length frame) (length frame) (omega arith)) (go (eqb n 0) refl)
  where
    go : (b : Bool) → eqb n 0 ≡ b → cond b 0 n ≡ n
    go true e = omega (arith, eqb-true n 0 e)
    go false e = refl

module _ (ws : List ℕ) (z t : ℕ) (bytes : List ℕ) (r : Request) (is : read_request bytes ≡ Reading.Is r) where
  told : frame_number ws z t bytes (response_room ws z t bytes) ≡ command_number ws z t r.command
  unfolding frame_number response_room number_from
  told = rw is (told-number (command_number ws z t r.command) (response_frame ws z t (Reading.Is r)))

  told-after : frame_after ws z t bytes (response_room ws z t bytes) ≡ cond (eqb (command_number ws z t r.command) 0) (command_after ws z t r.command) ws
  unfolding frame_after response_room number_from obeyed_by
  told-after = rw (is, told-number (command_number ws z t r.command) (response_frame ws z t (Reading.Is r)))

-- consumption v for n seconds
abbrev limit : ℕ → ℕ → Command
limit v n = Command.SetLimit (record { consumption = Field.Value (pos v); production = Field.Absent; duration = n; cause = 0 })

abbrev request : ℕ → Command → Request
request i c = record { id = i; endpoint = 1; feature = 5; command = c }

first_read : read_request frame3 ≡ Reading.Is (request 1 (limit 11040000 60))
unfolding number_at info_of width_of arg_at head_at items_at key_at pairs_at from_head item_at payload_of value_of framed number_up_to truth map_in signed needed optional amount_in value_in
    envelope_in served_command served_at setting_in limits_from command_in from_envelope from_payload read_request bind
first_read = refl

second_read : read_request frame9 ≡ Reading.Is (request 2 (limit 4600000 20))
unfolding number_at info_of width_of arg_at head_at items_at key_at pairs_at from_head item_at payload_of value_of framed number_up_to truth map_in signed needed optional amount_in value_in
    envelope_in served_command served_at setting_in limits_from command_in from_envelope from_payload read_request bind
second_read = refl

-- THE CALLS
module _ (ws : List ℕ) where
  abbrev two : List ℕ
  two = join_after (join_after ws 3 1 100) 9 2 100

  abbrev tell : List ℕ → ℕ → Command → List ℕ
  tell us z c = cond (eqb (command_number us z 100 c) 0) (command_after us z 100 c) us

  abbrev three : List ℕ
  three = tell two 3 (limit 11040000 60)

  abbrev four : List ℕ
  four = tell three 9 (limit 4600000 20)

  abbrev five : List ℕ
  five = move_after four 110

  abbrev line : ℕ → List (List ℕ) → List (List ℕ)
  line n l = decimal n ∷ (10 ∷ []) ∷ l

  abbrev calls : List (List ℕ)
  calls =
      line (join_number ws 3 1 100)
      (line (join_number (join_after ws 3 1 100) 9 2 100)
      (line (command_number two 3 100 (limit 11040000 60))
      (line (command_number three 9 100 (limit 4600000 20))
      (line (move_number four 110)
      (line 0 (plan_pieces (rows_from five) ++ []))))))

  made : (script ws example_script).pieces ≡ calls
  unfolding number_at right_length right_body is_mark fields_at good record_at call_of body_of numbered answered record_answered answered_pieces plan_pieces ended behind played_from played script
  made =
      rw (told two 3 100 frame3 _ first_read, told-after two 3 100 frame3 _ first_read, told three 9 100 frame9 _ second_read, told-after three 9 100 frame9 _ second_read)

-- WHAT THEY ANSWER
answers : joined (calls (start_after bench_settings)) ≡ zeros ++ row120 ++ row160
unfolding joined decimal digits width_in cell row_pieces plan_pieces rows_from walk step nearest nearer alike same_number dues held_dues zone_dues low_at up_to first any id_of
    rank_of is_joined is_up slot_of joined_in zone_of held_of any_joined any_up settings_of held_in zone_at zones_of bit held_words put_zone applied after setting_words fresh supports
    claim_of goes_before better winner in_failsafe smallest_with failsafe_value value_at present state_at shown values_at first_of late since_after zone_change
    head_change bad_join join_number join_after move_number move_after unsupported invalid too_low below_the_minimum
    command_number says some_of field_action action until_of done obeyed command_after is_capped reason_of stands outcome_with command_answer
    bad_maximum outside bad_settings start_after
answers = simp plan_of-walk

pub bench-example : BenchExample
unfolding bench_text
bench-example = ap joined (made (start_after bench_settings)) ∙ answers
