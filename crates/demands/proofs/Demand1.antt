-- Demand 1, proved.
use mathlib.Core.Path.{◌≡◌, refl}
use mathlib.Core.Logic.{◌≢◌}
use mathlib.Core.List.{List, [], ◌∷◌}
use Prim.Native.Nat.{ℕ}
use lib.IntN.{ℤ}
use lib.ListN.{length}
use borrow.Author.Tests.{ne_eqb}
use Rattle.kernel.specs.Frame.{frame_number, frame_answer}
use Rattle.device_store.specs.declared.Settings.{Settings}
use Rattle.device_store.specs.Zones.{any}
use Rattle.device_rules.specs.Rules.{bad_settings}
use Rattle.device_calls.specs.Start.{start_number, start_after}
use Rattle.device_store.proofs.Effects.{fresh-settings, fresh-clock, fresh-override}
use Rattle.plan.specs.Plan.{rows_from, plan_tests, plan_number, plan_answer, plan_slice}
use Rattle.report.specs.declared.Inputs.{Inputs}
use Rattle.report.specs.Report.{report_number, report_of, pairs_after}
use Rattle.demands.specs.Accepted.{started_with, InPairs}
use Rattle.demands.specs.Answers.{ByTests, Starts}
use Rattle.demands.specs.Demands.{Demand1}
use Rattle.demands.proofs.FirstTests.{by_tests}
use Rattle.demands.proofs.Codecs.{reads-request, reads-response, writes_request, writes_response, reports}
use Rattle.demands.proofs.Scraps.{receives, receives_words}
use Rattle.demands.proofs.Later.{reads-measurement, written-number, written-nothing, writes_measurement, reads-tick, tick_words, plans_plainly, rescues}
use Rattle.demands.proofs.Reached.{nobody-fresh, started_pairs}
use Rattle.demands.proofs.Answers.{answers}
use Rattle.demands.proofs.Responses.{responds}

plans : (ws : List ℕ) (room : ℕ) → ByTests (plan_number ws room) (plan_tests (rows_from ws) room)
plans ws room = by_tests (plan_number ws room) (plan_tests (rows_from ws) room) (unfold plan_number in refl) (unfold any in refl)

no_rows : (ws : List ℕ) (out : List ℤ) → plan_number ws (length out) ≢ 0 → (plan_slice ws out ≡ out) × ((plan_answer ws (length out)).count ≡ 0)
unfolding plan_slice plan_answer
no_rows ws out p = let e = ne_eqb (plan_number ws (length out)) 0 p in (rw e, rw e)

no_pairs : (i : Inputs) (attributes out : List ℕ) → report_number i attributes (length out) ≢ 0
    → (pairs_after i attributes out ≡ out) × ((report_of i attributes (length out)).count ≡ 0)
unfolding pairs_after report_of
no_pairs i attributes out p = let e = ne_eqb (report_number i attributes (length out)) 0 p in (rw e, rw e)

starts : (s : Settings) → InPairs s → Starts s
unfolding start_after started_with
starts s p =
    let q = started_pairs s p in
    record {
      numbered = by_tests (start_number s) ((bad_settings s, 16) ∷ []) (unfold start_number in refl) (unfold any in refl);
      clock = fresh-clock (started_with s);
      settings = fresh-settings (started_with s) q.maxima q.failsafe;
      nobody = nobody-fresh (started_with s);
      override = fresh-override (started_with s);
    }

pub demand_1 : Demand1
demand_1 =
    record {
      calls = answers;
      plans = plans;
      read_requests = reads-request;
      read_responses = reads-response;
      write_requests = writes_request;
      write_responses = writes_response;
      reports = reports;
      frame = λ ws z t bytes out. responds ws z t out bytes;
      plan = no_rows;
      write = written-nothing;
      report = no_pairs;
      frame_answers = λ ws z t bytes room. unfold frame_answer frame_number in refl;
      plan_answers = λ ws room. unfold plan_answer in refl;
      write_answers = written-number;
      report_answers = λ i attributes room. unfold report_of in refl;
      start = starts;
      receive = receives;
      receive_words = receives_words;
      read_measurement = reads-measurement;
      write_measurement = writes_measurement;
      read_tick = reads-tick;
      read_tick_words = tick_words;
      plain_plan = plans_plainly;
      rescue = rescues;
    }
