-- A record run on a device by the kernel's calls.
use Rattle.std.specs.Prelude.{ℕ, ◌+◌, true, false, cond, List, eqb, ℤ, length, get_or, take, drop, Option, None, Some}
use Rattle.kernel.specs.Door.{join_number, join_after, leave_number, leave_after, link_number, link_after, override_number, override_after, clear_number, clear_after, move_number, move_after}
use Rattle.kernel.specs.Door.{plan_answer, plan_slice}
use Rattle.kernel.specs.Frame.{frame_answer, frame_after, frame_out}
use Rattle.bench_records.specs.Kinds.{join, leave, lost, back, frame, plan, override, clear, move}
use Rattle.bench_records.specs.Records.{record_at}
use Rattle.bench_records.specs.declared.fields.Record.{Record}
use Rattle.bench_script.specs.declared.calls.Call.{Call}
use Rattle.bench_script.specs.declared.calls.Ran.{Ran}
use Rattle.bench_script.specs.declared.calls.Stepped.{Stepped}

-- "Kinds: 1 join (rank), 2 leave, 3 lost, 4 back, 5 frame, 6 plan, 7 override (reason, direction), 8 clear override";
-- "kind 9 becomes the clock move; kind 10 is the ask". a and b are the body's first bytes; the zone is passed over from kind 6 on
unfoldable pub call_of : ℕ → ℕ → ℕ → ℕ → Call
call_of kind z a b =
    cond (eqb kind join) (Call.Join z a)
    (cond (eqb kind leave) (Call.Leave z)
    (cond (eqb kind lost) (Call.Lost z)
    (cond (eqb kind back) (Call.Back z)
    (cond (eqb kind frame) (Call.Frame z)
    (cond (eqb kind plan) Call.Plan
    (cond (eqb kind override) (Call.Override a b)
    (cond (eqb kind clear) Call.Clear
    (cond (eqb kind move) Call.Move Call.Ask))))))))

-- what a call answers and leaves: its number, how many rows, the device's words, the output, the rows
pub record Left : Type 0 where
  pub ran : Ran
  pub words : List ℕ
  pub out : List ℕ
  pub rows : List ℤ

-- a call that has a number alone
unfoldable pub alone : ℕ → List ℕ → List ℕ → List ℤ → Left
alone n ws out rows = record { ran = record { number = n; count = 0 }; words = ws; out = out; rows = rows }

-- a call at t, a frame's bytes beside it. An ask is never refused and moves nothing;
-- "its time field, like that of the plan, is read and passed over"
unfoldable pub call_leaves : List ℕ → ℕ → List ℕ → List ℕ → List ℤ → Call → Left
call_leaves ws t bytes out rows (Call.Join z k) = alone (join_number ws z k t) (join_after ws z k t) out rows
call_leaves ws t bytes out rows (Call.Leave z) = alone (leave_number ws z t) (leave_after ws z t) out rows
call_leaves ws t bytes out rows (Call.Lost z) = alone (link_number ws z false t) (link_after ws z false t) out rows
call_leaves ws t bytes out rows (Call.Back z) = alone (link_number ws z true t) (link_after ws z true t) out rows
call_leaves ws t bytes out rows (Call.Frame z) =
    alone (frame_answer ws z t bytes (length out)).number (frame_after ws z t bytes (length out)) (frame_out ws z t bytes out) rows
call_leaves ws t bytes out rows Call.Plan =
    record {
      ran = record { number = (plan_answer ws (length rows)).number; count = (plan_answer ws (length rows)).count };
      words = ws;
      out = out;
      rows = plan_slice ws rows;
    }
call_leaves ws t bytes out rows (Call.Override reason d) = alone (override_number ws reason d t) (override_after ws reason d t) out rows
call_leaves ws t bytes out rows Call.Clear = alone (clear_number ws t) (clear_after ws t) out rows
call_leaves ws t bytes out rows Call.Move = alone (move_number ws t) (move_after ws t) out rows
call_leaves ws t bytes out rows Call.Ask = alone 0 ws out rows

-- a record's body, and its call
unfoldable pub body_of : List ℕ → Record → List ℕ
body_of s r = take r.length (drop r.body s)

unfoldable pub record_leaves : List ℕ → List ℕ → List ℕ → List ℤ → Record → Left
record_leaves ws s out rows r =
    call_leaves ws r.time (body_of s r) out rows (call_of r.kind r.zone (get_or s r.body 0) (get_or s (r.body + 1) 0))

-- what a step leaves: a bad record changes nothing
unfoldable pub scan_leaves : List ℕ → List ℕ → List ℕ → List ℤ → Option Record → Left
scan_leaves ws s out rows (Some r) = record_leaves ws s out rows r
scan_leaves ws s out rows None = alone 0 ws out rows

unfoldable pub step_leaves : List ℕ → List ℕ → ℕ → List ℕ → List ℤ → Left
step_leaves ws s p out rows = scan_leaves ws s out rows (record_at s p)

-- the answer to a good record: the call's number and rows, and where the next record starts
unfoldable pub step_from : Ran → Option Record → Option Stepped
step_from x (Some r) = Some (record { number = x.number; count = x.count; next = r.body + r.length })
step_from x None = None

unfoldable pub step_answer : List ℕ → List ℕ → ℕ → List ℕ → List ℤ → Option Stepped
step_answer ws s p out rows = step_from (step_leaves ws s p out rows).ran (record_at s p)
