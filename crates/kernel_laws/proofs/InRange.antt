-- The response to a request that was read is one that can be written: its command is served, and every number is in range.
use Rattle.std.specs.Prelude.{None, Some}
use Prim.Native.Nat.{ℕ, ◌<◌}
use mathlib.Core.Bool.{Bool, true, false, cond, not, ◌&&◌, ◌||◌}
use mathlib.Core.Path.{◌≡◌, refl}
use mathlib.Core.List.{List, [], ◌∷◌}
use native.Mathlib.Omega.{arith}
use lib.Dec.{ltb, leb, eqb}
use lib.IntN.{pos, negsuc}
use borrow.Author.Tests.{ltb-true, ltb-false, le-leb}
use Rattle.wire_messages.specs.Numbers.{wire_number}
use Rattle.refusals.specs.Refusals.{first_of}
use Rattle.wire_messages.specs.Options.{Amount}
use Rattle.wire_messages.specs.declared.Command.{Command}
use Rattle.wire_messages.specs.declared.Outcome.{Outcome}
use Rattle.wire_messages.specs.declared.Request.{Request}
use Rattle.wire_fields.specs.Fields.{most_value, most32}
use Rattle.wire_requests.specs.WrittenRequests.{request_number, request_wide, request_unserved, is_served, command_wide}
use Rattle.wire_messages.specs.Numbers.{served_command, served_at}
use Rattle.wire_responses.specs.Responses.{is_status, stands}
use Rattle.wire_responses.specs.WrittenResponses.{goes_with, fits, amount_up_to, is_nothing, limit_in_range, setpoint_in_range, current_in_range, response_fits, response_number, status_alone}
use Rattle.device_store.specs.Sizes.{value_end}
use Rattle.device_store.specs.Zones.{up_to, joined, zone_of, any_up}
use Rattle.device_store.specs.Words.{settings_of, clock_of, override_of, zones_of}
use Rattle.device_calls.specs.Refusals.{late}
use Rattle.device_holds.specs.Holds.{Situation, situation_of, in_failsafe, state_at, present, shown, values_at, value_at}
use Rattle.device_calls.specs.Commands.{command_number, command_after, command_answer}
use Rattle.command_effects.specs.Outcomes.{is_capped, outcome_with, reason_of, stated}
use Rattle.command_effects.specs.Content.{is_unserved, unsupported, sets_limits, invalid, below_the_minimum}
use Rattle.kernel.specs.Frame.{response_to}

-- a value that is shown fits a response
shown-fits : (a : Amount) → amount_up_to most_value (stated (shown a)) ≡ true
unfolding shown
shown-fits None = refl
shown-fits (Some v) = go (ltb v value_end) refl
  where
    go : (b : Bool) → ltb v value_end ≡ b → amount_up_to most_value (stated (cond b (pos v) (negsuc 0))) ≡ true
    go true e = le-leb v most_value (let h = ltb-true v value_end e in omega arith)
    go false e = refl

-- of two values that are shown, the one that a direction chooses
chosen_fits : (b : Bool) (x y : Amount) → amount_up_to most_value (cond b (stated (shown x)) (stated (shown y))) ≡ true
chosen_fits true x y = shown-fits x
chosen_fits false x y = shown-fits y

reason-fits : (n : ℕ) (capped : Bool) → amount_up_to 4 (reason_of n capped) ≡ true
unfolding reason_of
reason-fits n capped = go (eqb n 11) (eqb n 12) (eqb n 13) (eqb n 14) (eqb n 0 && capped)
  where
    go : (a b c d e : Bool) → amount_up_to 4 (cond a (Some 4) (cond b (Some 3) (cond c (Some 2) (cond d (Some 0) (cond e (Some 1) None))))) ≡ true
    go true b c d e = refl
    go false true c d e = refl
    go false false true d e = refl
    go false false false true e = refl
    go false false false false true = refl
    go false false false false false = refl

state_fits : (s : Situation) (t : ℕ) → leb (state_at s t) 4 ≡ true
unfolding state_at
state_fits s t = go (in_failsafe s t) (not (eqb s.override 0)) (present (value_at s t 0) || present (value_at s t 1)) (any_up s.zones)
  where
    go : (a b c d : Bool) → leb (cond a 3 (cond b 4 (cond c 2 (cond d 1 0)))) 4 ≡ true
    go true b c d = refl
    go false true c d = refl
    go false false true d = refl
    go false false false true = refl
    go false false false false = refl

-- the result stands where it should, and its numbers are in range
where_it_stands : (command : ℕ) (b : Bool) (o : Outcome) → goes_with command o ≡ true → cond b (goes_with command (cond b o Outcome.Nothing)) (is_nothing (cond b o Outcome.Nothing)) ≡ true
where_it_stands command true o h = h
where_it_stands command false o h = refl

at_zero_alone : (command : ℕ) (b : Bool) (o : Outcome) → goes_with command o ≡ true → cond (b || false) (goes_with command (cond b o Outcome.Nothing)) (is_nothing (cond b o Outcome.Nothing)) ≡ true
at_zero_alone command true o h = h
at_zero_alone command false o h = refl

outcome_fits : (s : Situation) (t n : ℕ) (capped : Bool) (c : Command) → is_served c ≡ true → fits (wire_number c) n (outcome_with c n capped (values_at s t)) ≡ true
unfolding fits stands goes_with limit_in_range setpoint_in_range current_in_range outcome_with values_at up_to
outcome_fits s t n capped (Command.SetLimit m) e =
    where_it_stands 1 (eqb n 0 || (leb 11 n && leb n 14)) _
    (rw (state_fits s t, shown-fits (value_at s t 0), shown-fits (value_at s t 1), reason-fits n capped))
outcome_fits s t n capped (Command.ClearLimit a) e = at_zero_alone 2 (eqb n 0) _ refl
outcome_fits s t n capped (Command.SetSetpoint m) e =
    at_zero_alone 3 (eqb n 0) _ (rw (shown-fits (value_at s t 2), shown-fits (value_at s t 3)))
outcome_fits s t n capped (Command.ClearSetpoint a) e = at_zero_alone 4 (eqb n 0) _ refl
outcome_fits s t n capped (Command.SetCurrentLimits m) e =
    let first = eqb m.direction 0 in
    at_zero_alone 5 (eqb n 0) _
    (rw (
      chosen_fits first (value_at s t 4) (value_at s t 5),
      chosen_fits first (value_at s t 6) (value_at s t 7),
      chosen_fits first (value_at s t 8) (value_at s t 9),
    ))
outcome_fits s t n capped (Command.ClearCurrentLimits a) e = at_zero_alone 6 (eqb n 0) _ refl
outcome_fits s t n capped (Command.Unserved m) e = absurd (let z : ◌≡◌ {A = ℕ} 0 1 = cc in omega arith)

-- every number of a command is a status
number_fits : (ws : List ℕ) (z t : ℕ) (c : Command) → is_status (command_number ws z t c) ≡ true
unfolding command_number first_of is_status
number_fits ws z t c =
    go (is_unserved c) (late (clock_of ws) t) (not (joined (zones_of ws) z)) (not (zone_of (zones_of ws) z).up) (unsupported (settings_of ws) c)
    (sets_limits c && not (eqb (override_of ws) 0)) (invalid (settings_of ws) c) (below_the_minimum (settings_of ws) c)
  where
    go : (a b c d e f g h : Bool) → is_status (first_of ((a, 4) ∷ (b, 5) ∷ (c, 9) ∷ (d, 10) ∷ (e, 11) ∷ (f, 12) ∷ (g, 13) ∷ (h, 14) ∷ [])) ≡ true
    go true b c d e f g h = refl
    go false true c d e f g h = refl
    go false false true d e f g h = refl
    go false false false true e f g h = refl
    go false false false false true f g h = refl
    go false false false false false true g h = refl
    go false false false false false false true h = refl
    go false false false false false false false true = refl
    go false false false false false false false false = refl

-- what a request that was read can say
served_then : (c : Command) → is_served c ≡ true → served_command (wire_number c) ≡ true
unfolding served_command
served_then (Command.SetLimit m) e = refl
served_then (Command.ClearLimit a) e = refl
served_then (Command.SetSetpoint m) e = refl
served_then (Command.ClearSetpoint a) e = refl
served_then (Command.SetCurrentLimits m) e = refl
served_then (Command.ClearCurrentLimits a) e = refl
served_then (Command.Unserved m) e = absurd (let z : ◌≡◌ {A = ℕ} 0 1 = cc in omega arith)

sound-request : (r : Request) → request_number r ≡ 0 → (leb r.id most32 ≡ true) × (is_served r.command ≡ true)
unfolding request_number request_wide request_unserved first_of
sound-request r e = go (ltb most32 r.id) refl (ltb 255 r.endpoint) (ltb 65535 r.feature) (command_wide r.command) (served_at r.endpoint r.feature) (is_served r.command) e
  where
    never : {X : Type 0} {n : ℕ} → 0 < n → n ≡ 0 → X
    never h e = absurd (omega arith)

    go : (a : Bool) → ltb most32 r.id ≡ a → (b c d f g : Bool) → ◌≡◌ {A = ℕ} (cond (a || b || c || d) 3 (cond (not (f && g)) 4 0)) 0 → (leb r.id most32 ≡ true) × (g ≡ true)
    go true h b c d f g e = never (omega arith) e
    go false h true c d f g e = never (omega arith) e
    go false h false true d f g e = never (omega arith) e
    go false h false false true f g e = never (omega arith) e
    go false h false false false false g e = never (omega arith) e
    go false h false false false true false e = never (omega arith) e
    go false h false false false true true e = (le-leb r.id most32 (let k = ltb-false most32 r.id h in omega arith), refl)

-- the response to a request that was read can be written
pub response-writable : (ws : List ℕ) (z t : ℕ) (r : Request) → request_number r ≡ 0 → response_number (wire_number r.command) (response_to ws z t r) ≡ 0
unfolding response_number response_fits response_to command_answer first_of
response-writable ws z t r e =
    let s = sound-request r e in
    rw (
      served_then r.command s.1,
      s.0,
      number_fits ws z t r.command,
      outcome_fits (situation_of (command_after ws z t r.command)) t (command_number ws z t r.command) (is_capped (settings_of ws) r.command) r.command s.1,
    )

no_result_lem : (c : ℕ) → stands c 4 ≡ false
unfolding stands
no_result_lem c = go (eqb c 1)
  where
    go : (b : Bool) → (false || (b && false)) ≡ false
    go true = refl
    go false = refl

-- and so can the answer to a frame that is not served, for every command that is: none has a result at status 4
pub unserved-writable : (i c : ℕ) → leb i most32 ≡ true → served_command c ≡ true → response_number c (status_alone i 4) ≡ 0
unfolding response_number response_fits is_status fits first_of
unserved-writable i c h served = rw (served, h, no_result_lem c)
