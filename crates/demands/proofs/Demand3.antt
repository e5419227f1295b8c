-- Demand 3, proved.
use mathlib.Core.Path.{◌≡◌, ◌∙◌, ap, subst, fun_ext}
use mathlib.Core.Bool.{Bool, true}
use mathlib.Core.List.{List}
use Prim.Native.Nat.{ℕ, ◌≤◌}
use native.Mathlib.Omega.{arith}
use lib.IntN.{ℤ}
use lib.ListN.{length}
use borrow.Author.Tests.{lt-ltb}
use Rattle.wire_bytes.specs.Bytes.{put_whole}
use Rattle.wire_requests.specs.Requests.{read_request}
use Rattle.kernel.specs.Frame.{frame_out}
use Rattle.device_store.specs.Sizes.{value_end}
use Rattle.device_store.specs.Words.{clock_of, zones_of}
use Rattle.device_holds.specs.Holds.{situation_of, shown, values_at}
use Rattle.device_store.specs.declared.Zone.{Zone}
use Rattle.device_store.specs.declared.Settings.{Settings}
use Rattle.device_store.specs.Zones.{id_of, rank_of, any_up}
use Rattle.device_calls.specs.Calls.{ask_answer}
use Rattle.plan.specs.Rows.{IsPlan}
use Rattle.plan.specs.Plan.{plan_of, rows_from, plan_number, plan_answer, plan_slice}
use Rattle.plan.proofs.IsPlan.{plan-is, plan-unique}
use Rattle.plan.proofs.Walk.{plan_of-few, plan_of-few_down}
use Rattle.demands.specs.Run.{run}
use Rattle.demands.specs.History.{Log, newest, says_rank, clock_by, joined_by, record_by}
use Rattle.demands.specs.Accepted.{started_with, history, told}
use Rattle.demands.specs.Demands.{Lists, Demand3}
use Rattle.demands.proofs.Count.{at_most}
use Rattle.demands.proofs.Same.{at, id_high, Same}
use Rattle.demands.proofs.Agree.{agree_values, any-up}
use Rattle.demands.proofs.Steps.{number_same, plan_number-same, response_same}
use Rattle.demands.proofs.Reached.{agree_run}
use Rattle.demands.proofs.Ranges.{value_small}
use Rattle.demands.proofs.Slots.{released_slot}
use Rattle.demands.proofs.Moving.{moves_as_planned}
use Rattle.demands.proofs.Blamed.{never_the_wrong_zone}

-- an accepted plan lists what changes of any values that are the device's
lists : (ws : List ℕ) (f : ℕ → List ℤ) → values_at (situation_of ws) ≡ f → (up : Bool) → any_up (zones_of ws) ≡ up → (now : ℕ) → clock_of ws ≡ now
    → (out : List ℤ) → plan_number ws (length out) ≡ 0 → Lists f up now out (plan_slice ws out) (plan_answer ws (length out)).count
unfolding plan_slice plan_answer rows_from
lists ws f v up u now c out e =
    let p : IsPlan f now (plan_of (situation_of ws) (clock_of ws)) = unfold plan_of in rw (c, v) (plan-is f now) in
    record {
      rows = plan_of (situation_of ws) (clock_of ws);
      whole = p;
      only = λ l i. plan-unique f now l (plan_of (situation_of ws) (clock_of ws)) i p;
      slice = rw e;
      counted = rw e;
      few = plan_of-few ws (clock_of ws);
      few_down = λ d. plan_of-few_down ws (clock_of ws) (u ∙ d);
    }

-- an ask shows the values at the clock
asks : (ws : List ℕ) (f : ℕ → List ℤ) → ((t : ℕ) → values_at (situation_of ws) t ≡ f t) → (now : ℕ) → clock_of ws ≡ now → ask_answer ws ≡ f now
unfolding ask_answer
asks ws f v now c = rw c (v now)

-- a precedence gives back the id and the rank that made it
precedences : (s : Settings) (zs : List Zone) (h : Log) → Same s zs h → (z : ℕ) → joined_by h z ≡ true → (id_of (record_by s h z) ≡ z) × (rank_of (record_by s h z) ≡ newest (says_rank z) 0 h)
unfolding record_by id_of rank_of
precedences s zs h k z e =
    let b = k.back z e in
    let l : z ≤ 255 = subst (λ (n : ℕ). n ≤ 255) b.3 (id_high (at zs b.1)) in
    (omega arith, omega arith)

pub demand_3 : Demand3
demand_3 s k calls =
    let d = run s calls in
    let h = history s calls in
    let a = agree_run s k calls in
    let v = agree_values (started_with s) d h a in
    record {
      plan = lists d (values_at (told s calls)) (fun_ext v) (any_up (told s calls).zones) (any-up (started_with s) (zones_of d) h a.zones) (clock_by h) a.clock;
      moving = moves_as_planned d a.size;
      values = v;
      ask = asks d (values_at (told s calls)) v (clock_by h) a.clock;
      whole = λ t q n l e. unfold shown in rw (e, lt-ltb n value_end (value_small s calls t q n l e));
      numbers = number_same (started_with s) d h a;
      plan_numbers = plan_number-same (started_with s) d h a;
      responses = λ z t bytes out. unfold frame_out in ap (put_whole out 0) (response_same (started_with s) d h a z t (read_request bytes));
      precedences = precedences (started_with s) (zones_of d) h a.zones;
      eight = at_most (started_with s) (zones_of d) h a.zones;
      slots = released_slot s k calls;
      holders = never_the_wrong_zone s k calls;
    }
