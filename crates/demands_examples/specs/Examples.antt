-- Document 01's marked examples P1 to P10, the bench's, and those of L3, L5, L8 and L13: one table of cases, over the definitions that the calls' contracts cite. d is the direction.
use Rattle.std.specs.Prelude.{ℕ, ◌+◌, ◌-◌, ◌<◌, ◌≡◌, true, false, cond, eqb, ℤ, pos, negsuc, replicate, None, Some}
use mathlib.Core.List.{List, [], ◌∷◌, ◌++◌, foldl, map}
use Rattle.refusals.specs.States.{AUTONOMOUS, CONTROLLED, LIMITED, FAILSAFE}
use Rattle.wire_messages.specs.Options.{Amount}
use Rattle.wire_messages.specs.declared.Field.{Field}
use Rattle.wire_messages.specs.Options.{Target}
use Rattle.wire_messages.specs.declared.Command.{Command}
use Rattle.wire_messages.specs.declared.Outcome.{Outcome}
use Rattle.device_store.specs.Quantities.{current_at}
use Rattle.device_store.specs.declared.Settings.{Settings}
use Rattle.device_store.specs.Sizes.{most}
use Rattle.device_holds.specs.Holds.{situation_of, value_at, state_at, shown}
use Rattle.device_calls.specs.Calls.{join_after, leave_after, link_after}
use Rattle.device_calls.specs.Commands.{command_number, command_after, command_answer}
use Rattle.device_calls.specs.Start.{start_after}
use Rattle.plan.specs.Plan.{plan_of, numbers_of}

-- a call takes a device to the next; a question reads numbers from it, -1 absent
abbrev pub Step : Type 0
Step = List ℕ → List ℕ

pub record Case : Type 0 where
  pub settings : Settings
  pub calls : List Step
  pub question : List ℕ → List ℤ
  pub answer : List ℤ

-- the device after a case's calls
unfoldable pub reached : Case → List ℕ
reached c = foldl (λ d call. call d) (start_after c.settings) c.calls

unfoldable pub found : Case → List ℤ
found c = c.question (reached c)

-- THE DEVICES: both directions, all accepted, failsafe 4,200,000 and 0 for 7,200 s, no energy manager, three phases
abbrev pub device : ℕ → List ℕ → Settings
device minimum maxima =
    record {
      directions = 2;
      limits = true;
      setpoints = true;
      minimum = minimum;
      maxima = maxima;
      failsafe = 4200000 ∷ 0 ∷ [];
      duration = 7200;
      manager = false;
      phases = 3;
      currents = true;
    }

-- the same with one phase
abbrev pub single : Settings
single =
    record {
      directions = 2;
      limits = true;
      setpoints = true;
      minimum = 0;
      maxima = most ∷ most ∷ [];
      failsafe = 0 ∷ 0 ∷ [];
      duration = 7200;
      manager = false;
      phases = 1;
      currents = true;
    }

-- one minimum, and one maximum for both directions
abbrev pub box : ℕ → ℕ → Settings
box minimum top = device minimum (top ∷ top ∷ [])

-- the bench program's device
abbrev pub bench : Settings
bench = device 1380000 (43000000 ∷ most ∷ [])

-- THE CALLS
abbrev pub join : ℕ → ℕ → ℕ → Step
join z k t = λ d. join_after d z k t

abbrev pub leave : ℕ → ℕ → Step
leave z t = λ d. leave_after d z t

abbrev pub lost : ℕ → ℕ → Step
lost z t = λ d. link_after d z false t

abbrev pub tell : ℕ → ℕ → Command → Step
tell z t c = λ d. command_after d z t c

-- SetLimit with one field, for direction d; SetSetpoint likewise, until replaced or with a duration as it stands
abbrev pub limit : ℕ → Field → ℕ → Command
limit d f n = Command.SetLimit (record { consumption = cond (eqb d 0) f Field.Absent; production = cond (eqb d 0) Field.Absent f; duration = n; cause = 0 })

abbrev pub mw : ℕ → Field
mw v = Field.Value (pos v)

abbrev pub setpoint_for : Amount → ℕ → ℕ → Command
setpoint_for n d v =
    Command.SetSetpoint (record {
      consumption = cond (eqb d 0) (Some (pos v)) None;
      production = cond (eqb d 0) None (Some (pos v));
      duration = n;
      cause = 0;
    })

abbrev pub setpoint : ℕ → ℕ → Command
setpoint = setpoint_for (Some 0)

-- SetCurrentLimits with a field for phase p (none where there is no such phase), in direction d
abbrev pub current : ℕ → ℕ → Field → ℕ → Command
current p d f n =
    Command.SetCurrentLimits (record {
      phases =
          record {
            a = cond (eqb p 0) f Field.Absent;
            b = cond (eqb p 1) f Field.Absent;
            c = cond (eqb p 2) f Field.Absent;
          };
      direction = d;
      duration = n;
      cause = 0;
    })

-- THE QUESTIONS
abbrev pub absent : ℤ
absent = negsuc 0

-- the limit and the setpoint of direction d, its current limit on phase p, and the control state, at second t
abbrev pub limit_at : ℕ → ℕ → List ℕ → List ℤ
limit_at d t = λ ws. shown (value_at (situation_of ws) t d) ∷ []

abbrev pub setpoint_at : ℕ → ℕ → List ℕ → List ℤ
setpoint_at d t = λ ws. shown (value_at (situation_of ws) t (2 + d)) ∷ []

abbrev pub current_of : ℕ → ℕ → ℕ → List ℕ → List ℤ
current_of p d t = λ ws. shown (value_at (situation_of ws) t (current_at p d)) ∷ []

abbrev pub control_at : ℕ → List ℕ → List ℤ
control_at t = λ ws. pos (state_at (situation_of ws) t) ∷ []

-- the number that a command would have
abbrev pub told : ℕ → ℕ → Command → List ℕ → List ℤ
told z t c = λ ws. pos (command_number ws z t c) ∷ []

-- the reason that its response would have
abbrev pub amount : Amount → ℤ
amount None = absent
amount (Some v) = pos v

abbrev pub reason_in : Outcome → ℤ
reason_in Outcome.Nothing = absent
reason_in (Outcome.Limit l) = amount l.reason
reason_in (Outcome.Setpoint l) = absent
reason_in (Outcome.Current l) = absent
reason_in Outcome.Success = absent

abbrev pub reason : ℕ → ℕ → Command → List ℕ → List ℤ
reason z t c = λ ws. reason_in (command_answer ws z t c).outcome ∷ []

-- the limit of direction d that its response would show
abbrev pub limit_in : ℕ → Outcome → ℤ
limit_in d Outcome.Nothing = absent
limit_in d (Outcome.Limit l) = cond (eqb d 0) (amount l.consumption) (amount l.production)
limit_in d (Outcome.Setpoint l) = absent
limit_in d (Outcome.Current l) = absent
limit_in d Outcome.Success = absent

abbrev pub limit_shown : ℕ → ℕ → ℕ → Command → List ℕ → List ℤ
limit_shown d z t c = λ ws. limit_in d (command_answer ws z t c).outcome ∷ []

-- n values that are absent
abbrev pub none : ℕ → List ℤ
none n = replicate n absent

-- the plan's rows after second t
abbrev pub rows : ℕ → List ℕ → List ℤ
rows t = λ ws. numbers_of (plan_of (situation_of ws) t)

-- THE TABLE
abbrev case : Settings → List Step → (List ℕ → List ℤ) → List ℤ → Case
case s calls question answer = record { settings = s; calls = calls; question = question; answer = answer }

-- zones 3 and 4 with ranks 1 and 2, all joined at 10
abbrev pub two : List Step → List Step
two calls = join 3 1 10 ∷ join 4 2 10 ∷ calls

abbrev pub free : Settings
free = box 0 most

-- 16,000 mA of zone 3 and 10,000 of zone 4 on phase B, in direction d
abbrev pub amps : ℕ → List Step → List Step
amps d calls = two (tell 3 10 (current 1 d (mw 16000) 0) ∷ tell 4 20 (current 1 d (mw 10000) 0) ∷ calls)

-- L13: at second 20 a limit of 9,000 for 60 s, which zone 3 gives below, and one of 7,000 for 40 s, which zone 4 gives; and their plan
abbrev pub threes : ℕ → Command
threes d = limit d (mw 9000) 60

abbrev pub fours : ℕ → Command
fours d = limit d (mw 7000) 40

abbrev pub both_planned : ℕ → List ℤ
both_planned d =
    pos 60 ∷ pos LIMITED ∷ cond (eqb d 0) (pos 9000) absent ∷ cond (eqb d 0) absent (pos 9000) ∷ none 8
    ++ pos 80 ∷ pos CONTROLLED ∷ none 10

-- values and refusals of commands
unfoldable pub command_cases : ℕ → List Case
command_cases d =
    -- P1 limits 9,000, 7,000, 7,000: 7,000
    case free (two (join 5 3 10 ∷ tell 3 10 (limit d (mw 9000) 0) ∷ tell 4 10 (limit d (mw 7000) 0) ∷ tell 5 10 (limit d (mw 7000) 0) ∷ []))
    (limit_at d 10) (pos 7000 ∷ [])
    -- P2 set at 100 for 60: there at 159, gone at 160
    ∷ case free (two (tell 3 100 (limit d (mw 9000) 60) ∷ [])) (limit_at d 159) (pos 9000 ∷ [])
    ∷ case free (two (tell 3 100 (limit d (mw 9000) 60) ∷ [])) (limit_at d 160) (absent ∷ [])
    -- L8 a setpoint set at 100 with an omitted duration: there at 3,699, gone at 3,700; with a 0 it stays; replaced in time it stays, and
    -- a limit with an omitted duration, which is 0, stays
    ∷ case free (two (tell 3 100 (setpoint_for None d 9000) ∷ [])) (setpoint_at d 3699) (pos 9000 ∷ [])
    ∷ case free (two (tell 3 100 (setpoint_for None d 9000) ∷ [])) (setpoint_at d 3700) (absent ∷ [])
    ∷ case free (two (tell 3 100 (setpoint d 9000) ∷ [])) (setpoint_at d 3700) (pos 9000 ∷ [])
    ∷ case free (two (tell 3 100 (setpoint_for None d 9000) ∷ tell 3 3000 (setpoint_for None d 8000) ∷ [])) (setpoint_at d 3700) (pos 8000 ∷ [])
    ∷ case free (two (tell 3 100 (limit d (mw 9000) 0) ∷ [])) (limit_at d 3700) (pos 9000 ∷ [])
    -- P3 leave and rejoin: absent
    ∷ case free (two (tell 3 10 (limit d (mw 9000) 0) ∷ leave 3 20 ∷ join 3 1 30 ∷ [])) (limit_at d 30) (absent ∷ [])
    ∷ case free (two (tell 3 10 (setpoint d 9000) ∷ leave 3 20 ∷ join 3 1 30 ∷ [])) (setpoint_at d 30) (absent ∷ [])
    -- P4 null consumption: production stays
    ∷ case free (two (tell 3 10 (limit d (mw 9000) 0) ∷ tell 3 10 (limit (1 - d) (mw 7000) 0) ∷ tell 3 20 (limit d Field.Null 0) ∷ []))
    (limit_at d 20) (absent ∷ [])
    ∷ case free (two (tell 3 10 (limit d (mw 9000) 0) ∷ tell 3 10 (limit (1 - d) (mw 7000) 0) ∷ tell 3 20 (limit d Field.Null 0) ∷ []))
    (limit_at (1 - d) 20) (pos 7000 ∷ [])
    -- P5 -1: refused 13
    ∷ case free (two []) (told 3 20 (limit d (Field.Value (negsuc 0)) 0)) (pos 13 ∷ [])
    -- P6 minimum 1,380,000: that passes, 1,379,999 is 14; 0 passes, 1 is 14
    ∷ case (box 1380000 most) (two []) (told 3 20 (limit 0 (mw 1380000) 0)) (pos 0 ∷ [])
    ∷ case (box 1380000 most) (two []) (told 3 20 (limit 0 (mw 1379999) 0)) (pos 14 ∷ [])
    ∷ case (box 1380000 most) (two []) (told 3 20 (limit 0 (mw 0) 0)) (pos 0 ∷ [])
    ∷ case (box 1380000 most) (two []) (told 3 20 (limit 0 (mw 1) 0)) (pos 14 ∷ [])
    -- P7 maximum 43,000,000: 43,000,001 is stored as the maximum, reason 1; the maximum itself, no reason
    ∷ case (box 0 43000000) (two (tell 3 20 (limit d (mw 43000001) 0) ∷ [])) (limit_at d 20) (pos 43000000 ∷ [])
    ∷ case (box 0 43000000) (two []) (reason 3 20 (limit d (mw 43000001) 0)) (pos 1 ∷ [])
    ∷ case (box 0 43000000) (two (tell 3 20 (limit d (mw 43000000) 0) ∷ [])) (limit_at d 20) (pos 43000000 ∷ [])
    ∷ case (box 0 43000000) (two []) (reason 3 20 (limit d (mw 43000000) 0)) (absent ∷ [])
    ∷ []

-- with all links lost
unfoldable pub failsafe_cases : ℕ → List Case
failsafe_cases d =
    -- P8 all links lost at 1,000, 7,200 s: FAILSAFE at 8,199, AUTONOMOUS at 8,200
    case free (two (lost 3 900 ∷ lost 4 1000 ∷ [])) (control_at 8199) (pos FAILSAFE ∷ [])
    ∷ case free (two (lost 3 900 ∷ lost 4 1000 ∷ [])) (control_at 8200) (pos AUTONOMOUS ∷ [])
    -- L3 the failsafe limit is 4,200,000 and 0: a standing 2,000,000 holds when all links are lost, 4,200,001 gives way, and 0 stays
    ∷ case free (two (tell 3 10 (limit d (mw 2000000) 0) ∷ lost 3 900 ∷ lost 4 1000 ∷ [])) (limit_at d 1000) (cond (eqb d 0) (pos 2000000) (pos 0) ∷ [])
    ∷ case free (two (tell 3 10 (limit d (mw 4200001) 0) ∷ lost 3 900 ∷ lost 4 1000 ∷ [])) (limit_at d 1000) (cond (eqb d 0) (pos 4200000) (pos 0) ∷ [])
    ∷ case free (two (tell 3 10 (limit 0 (mw 2000000) 60) ∷ lost 3 15 ∷ lost 4 20 ∷ []))
    (rows 20) (pos 70 ∷ pos 3 ∷ pos 4200000 ∷ pos 0 ∷ none 8 ++ pos 7220 ∷ pos 0 ∷ none 10)
    ∷ []

-- whose setpoint, and plans
unfoldable pub plan_cases : ℕ → List Case
plan_cases d =
    -- P9 equal rank, zones 4 and 6: zone 4's setpoint
    case free (two (join 6 2 10 ∷ tell 6 10 (setpoint d 100) ∷ tell 4 10 (setpoint d 900) ∷ [])) (setpoint_at d 10) (pos 900 ∷ [])
    -- P10 two equal limits, expiries 50 and 70: a row at 70 only
    ∷ case free (two (tell 3 10 (limit d (mw 7000) 40) ∷ tell 4 10 (limit d (mw 7000) 60) ∷ []))
    (rows 10) (pos 70 ∷ pos 1 ∷ none 10)
    -- the bench program's input, of which the last two lines of output are the plan at 110
    ∷ case bench (join 3 1 100 ∷ join 9 2 100 ∷ tell 3 100 (limit 0 (mw 11040000) 60) ∷ tell 9 100 (limit 0 (mw 4600000) 20) ∷ [])
    (rows 110)
    (pos 120 ∷ pos 2 ∷ pos 11040000 ∷ none 9 ++ pos 160 ∷ pos 1 ∷ none 10)
    -- L13 two zones in one second: the plan is the same in either order, and so is each number, a refusal among them
    ∷ case free (two (tell 3 20 (threes d) ∷ tell 4 20 (fours d) ∷ [])) (rows 20) (both_planned d)
    ∷ case free (two (tell 4 20 (fours d) ∷ tell 3 20 (threes d) ∷ [])) (rows 20) (both_planned d)
    ∷ case free (two []) (told 3 20 (threes d)) (pos 0 ∷ [])
    ∷ case free (two (tell 4 20 (fours d) ∷ [])) (told 3 20 (threes d)) (pos 0 ∷ [])
    ∷ case free (two []) (told 3 20 (limit d (Field.Value (negsuc 0)) 0)) (pos 13 ∷ [])
    ∷ case free (two (tell 4 20 (fours d) ∷ [])) (told 3 20 (limit d (Field.Value (negsuc 0)) 0)) (pos 13 ∷ [])
    -- L13 what zone 3 is shown hangs on it: its own 9,000 where it comes first, zone 4's 7,000 where it comes last
    ∷ case free (two []) (limit_shown d 3 20 (threes d)) (pos 9000 ∷ [])
    ∷ case free (two (tell 4 20 (fours d) ∷ [])) (limit_shown d 3 20 (threes d)) (pos 7000 ∷ [])
    ∷ []

-- current limits
unfoldable pub current_cases : ℕ → List Case
current_cases d =
    -- L5 16,000 and 10,000 mA on phase B: 10,000 holds, in FAILSAFE too and not behind it; the other phases stay absent
    case free (amps d []) (current_of 1 d 20) (pos 10000 ∷ [])
    ∷ case free (amps d (lost 3 900 ∷ lost 4 1000 ∷ [])) (current_of 1 d 8199) (pos 10000 ∷ [])
    ∷ case free (amps d (lost 3 900 ∷ lost 4 1000 ∷ [])) (current_of 1 d 8200) (absent ∷ [])
    ∷ case free (amps d []) (current_of 0 d 20) (absent ∷ [])
    ∷ case free (amps d []) (current_of 1 (1 - d) 20) (absent ∷ [])
    -- L5 a current limit makes no LIMITED, and null takes this zone's away
    ∷ case free (amps d []) (control_at 20) (pos CONTROLLED ∷ [])
    ∷ case free (amps d (tell 4 30 (current 1 d Field.Null 0) ∷ [])) (current_of 1 d 30) (pos 16000 ∷ [])
    -- L5 refused with 13: a phase from the phase count up, also as null; a negative value; an empty map. Phase A of one is accepted
    ∷ case single (two []) (told 3 20 (current 0 d (mw 6000) 0)) (pos 0 ∷ [])
    ∷ case single (two []) (told 3 20 (current 1 d (mw 6000) 0)) (pos 13 ∷ [])
    ∷ case single (two []) (told 3 20 (current 1 d Field.Null 0)) (pos 13 ∷ [])
    ∷ case single (two []) (told 3 20 (current 0 d (Field.Value (negsuc 0)) 0)) (pos 13 ∷ [])
    ∷ case single (two []) (told 3 20 (current 3 d (mw 6000) 0)) (pos 13 ∷ [])
    ∷ []

unfoldable pub table : ℕ → List Case
table d = command_cases d ++ (failsafe_cases d ++ (plan_cases d ++ current_cases d))

-- "The marked examples are one table under one statement"
abbrev pub Marked : Type 0
Marked = (d : ℕ) → d < 2 → map found (table d) ≡ map (λ c. c.answer) (table d)
