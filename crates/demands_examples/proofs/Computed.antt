-- The marked examples, computed.
use Prim.Native.Nat.{ℕ, zero, suc, ◌<◌}
use mathlib.Core.Path.{◌≡◌, refl}
use mathlib.Core.List.{List, [], ◌∷◌, ◌++◌, map}
use native.Mathlib.Nat.{le_of_suc-le-suc, not-suc-le-zero}
use Rattle.device_store.specs.Zones.{up_to, first, any, id_of, rank_of, is_joined, is_up, slot_of, joined, zone_of, held_of, any_joined, any_up}
use Rattle.device_store.specs.Words.{settings_of, held_in, zone_at, zones_of, bit, held_words, put_zone, applied, after, setting_words, fresh}
use Rattle.device_holds.specs.Holds.{claim_of, goes_before, better, winner, in_failsafe, smallest_with, failsafe_value, value_at, present, state_at, shown, values_at}
use Rattle.device_store.specs.Quantities.{low_at, supports}
use Rattle.device_holds.specs.Dues.{zone_dues, held_dues, dues, nearer, nearest}
use Rattle.device_calls.specs.Refusals.{first_of, late}
use Rattle.device_holds.specs.Links.{since_after}
use Rattle.device_calls.specs.Calls.{zone_change, join_number, join_after, leave_number, leave_after, same, link_number, link_after}
use Rattle.device_rules.specs.Rules.{bad_join}
use Rattle.device_store.specs.Words.{head_change}
use Rattle.command_effects.specs.Says.{says, some_of}
use Rattle.command_effects.specs.Content.{unsupported, invalid}
use Rattle.device_calls.specs.Commands.{command_number, command_after, command_answer}
use Rattle.command_effects.specs.Content.{too_low, below_the_minimum}
use Rattle.command_effects.specs.Effects.{field_action, action, until_of, done, obeyed}
use Rattle.wire_messages.specs.Statuses.{stands}
use Rattle.command_effects.specs.Outcomes.{is_capped, reason_of, outcome_with}
use Rattle.device_rules.specs.Rules.{bad_maximum, outside, bad_settings}
use Rattle.device_calls.specs.Start.{start_after}
use Rattle.plan.specs.Plan.{numbers_of}
use Rattle.device_holds.specs.Alike.{same_number, alike}
use Rattle.plan.specs.Walk.{step, walk}
use Rattle.plan.proofs.Walk.{plan_of-walk}
use Rattle.demands_examples.specs.Examples.{Case, reached, found, command_cases, failsafe_cases, plan_cases, current_cases, table, Marked}

-- a list of cases in which each finds its answer
abbrev Right : List Case → Type 0
Right l = map found l ≡ map (λ c. c.answer) l

both : (l m : List Case) → Right l → Right m → Right (l ++ m)
both [] m p q = q
both (c ∷ l) m p q = let e : found c ≡ c.answer = cc in let r : Right l = cc in λ i. e i ∷ both l m r q i

part : ℕ → ℕ → List Case
part zero d = command_cases d
part (suc zero) d = failsafe_cases d
part (suc (suc zero)) d = plan_cases d
part (suc (suc (suc k))) d = current_cases d

-- each part is computed by itself; where a plan is asked for, by its walk
right : (k d : ℕ) → d < 2 → Right (part k d)
unfolding found reached part command_cases failsafe_cases plan_cases current_cases numbers_of walk step nearest nearer alike same_number dues held_dues
    zone_dues up_to first any id_of rank_of is_joined is_up slot_of
    joined zone_of held_of any_joined any_up settings_of held_in zone_at zones_of bit held_words put_zone applied after setting_words fresh supports low_at
    claim_of goes_before better winner in_failsafe smallest_with failsafe_value value_at present state_at shown values_at first_of late since_after zone_change
    head_change bad_join join_number join_after leave_number leave_after same link_number link_after says some_of unsupported invalid too_low
    below_the_minimum command_number field_action action until_of done obeyed command_after is_capped reason_of stands outcome_with command_answer
    bad_maximum outside bad_settings start_after
right zero zero h = refl
right zero (suc zero) h = refl
right (suc zero) zero h = simp plan_of-walk
right (suc zero) (suc zero) h = simp plan_of-walk
right (suc (suc zero)) zero h = simp plan_of-walk
right (suc (suc zero)) (suc zero) h = simp plan_of-walk
right (suc (suc (suc k))) zero h = refl
right (suc (suc (suc k))) (suc zero) h = refl
right k (suc (suc d)) h = absurd (not-suc-le-zero (le_of_suc-le-suc (le_of_suc-le-suc h)))

pub marked : Marked
unfolding table part
marked d h = both (command_cases d) _ (right 0 d h) (both (failsafe_cases d) _ (right 1 d h) (both (plan_cases d) (current_cases d) (right 2 d h) (right 3 d h)))
