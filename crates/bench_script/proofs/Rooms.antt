-- Where there is room for all that a call writes, it answers and leaves what it would in any larger room. Assumes nothing.
use Prim.Native.Nat.{ℕ, zero, suc, ◌+◌, ◌-◌, ◌≤◌}
use mathlib.Core.Path.{◌≡◌, refl, ap, ◌∙◌}
use mathlib.Core.Logic.{ite}
use mathlib.Core.List.{List, ◌∷◌, ◌++◌, append_assoc, List-discrete}
use native.Mathlib.Omega.{arith}
use lib.IntN.{ℤ, pos, ℤ_discrete}
use lib.ListN.{length, drop}
use lib.Seq.{take_at, drop_at}
use borrow.Author.Tests.{le-ltb, le-leb}
use Rattle.refusals.specs.Refusals.{first_of}
use Rattle.wire_requests.specs.Requests.{read_request}
use Rattle.wire_output.specs.Writing.{writing_number}
use Rattle.wire_requests.specs.declared.reading.Reading.{Reading}
use Rattle.device_store.specs.Sizes.{helds}
use Rattle.device_store.specs.Words.{clock_of}
use Rattle.device_holds.specs.Holds.{situation_of, values_at}
use Rattle.plan.specs.Rows.{last, rows_of, plan}
use Rattle.plan.specs.Plan.{plan_of, row_size, numbers_of, rows_from, plan_number}
use Rattle.plan.proofs.Walk.{plan_of-few}
use Rattle.plan.proofs.Find.{values_length}
use Rattle.plan.proofs.Answers.{numbers_length}
use Rattle.kernel_laws.proofs.Readable.{responses_short}
use Rattle.kernel.specs.Frame.{response_frame, number_from, frame_number, frame_after}
use Rattle.bench_script.specs.Answers.{row_pieces, table_pieces}
use Rattle.bench_script.specs.Bench.{response_room, plan_pieces, frame_room, rows_room}

-- A RESPONSE: none is longer than the longest
number-room : (ws : List ℕ) (z t room : ℕ) (x : Reading) → length (response_frame ws z t x) ≤ room → number_from ws z t x room ≡ number_from ws z t x (length (response_frame ws z t x))
unfolding number_from writing_number
number-room ws z t room (Reading.Refused n) h = refl
number-room ws z t room (Reading.Unserved i) h = refl
number-room ws z t room (Reading.Is r) h =
    let f = response_frame ws z t (Reading.Is r) in
    rw (le-leb (length f) room h, le-leb (length f) (length f) (omega arith))

module _ (ws : List ℕ) (z t : ℕ) (bytes : List ℕ) (room : ℕ) (h : frame_room ≤ room) where
  pub frame-number : frame_number ws z t bytes room ≡ frame_number ws z t bytes (response_room ws z t bytes)
  unfolding frame_number response_room
  frame-number = number-room ws z t room (read_request bytes) (omega (arith, responses_short ws z t bytes))

  pub frame-after : frame_after ws z t bytes room ≡ frame_after ws z t bytes (response_room ws z t bytes)
  unfolding frame_after response_room
  frame-after = rw (number-room ws z t room (read_request bytes) (omega (arith, responses_short ws z t bytes)))

-- A PLAN: 80 rows of twelve numbers at most
pub plan-fits : (ws : List ℕ) (room : ℕ) → rows_room ≤ room → plan_number ws room ≡ 0
unfolding plan_number rows_from first_of
plan-fits ws room h =
    rw (le-ltb room (length (numbers_of (rows_from ws))) (omega (arith, numbers_length (situation_of ws) (clock_of ws), plan_of-few ws (clock_of ws))))

row-prints : (a : ℤ) (v ns old : List ℤ) (n : ℕ) → length v ≡ 1 + helds → table_pieces (suc n) (((a ∷ v) ++ ns) ++ old) ≡ row_pieces (a ∷ v) ++ table_pieces n (ns ++ old)
unfolding table_pieces
row-prints a v ns old n h =
    let row : List ℤ = a ∷ v in
    let all : List ℤ = row ++ (ns ++ old) in
    let l : length row ≡ row_size = omega arith in
    ap (table_pieces (suc n)) (append_assoc row ns old)
    ∙ ap (λ (x : List ℤ). row_pieces x ++ table_pieces n (drop row_size all)) (take_at row (ns ++ old) row_size l)
    ∙ ap (λ (x : List ℤ). row_pieces row ++ table_pieces n x) (drop_at row (ns ++ old) row_size l)

-- the numbers of the rows, with anything behind them, print as the rows
abbrev Prints : List ℤ → List (ℕ × List ℤ) → Type 0
Prints old rs = table_pieces (length rs) (numbers_of rs ++ old) ≡ plan_pieces rs

rows-print : (f : ℕ → List ℤ) → ((t : ℕ) → length (f t) ≡ 1 + helds) → (n now : ℕ) (old : List ℤ) → Prints old (rows_of f now n)
unfolding rows_of numbers_of table_pieces plan_pieces
rows-print f each zero now old = refl
rows-print f each (suc n) now old = go (List-discrete ℤ_discrete (f (suc now)) (f now)) (rows-print f each n (suc now) old)
  where
    go : (d : Dec (f (suc now) ≡ f now)) → Prints old (rows_of f (suc now) n) → Prints old (ite d (rows_of f (suc now) n) ((suc now, f (suc now)) ∷ rows_of f (suc now) n))
    go (yes e) h = h
    go (no e) h =
        row-prints (pos (suc now)) (f (suc now)) (numbers_of (rows_of f (suc now) n)) old (length (rows_of f (suc now) n)) (each (suc now))
        ∙ ap (λ (l : List (List ℕ)). row_pieces (pos (suc now) ∷ f (suc now)) ++ l) h

pub plan-prints : (ws : List ℕ) (old : List ℤ) → Prints old (rows_from ws)
unfolding rows_from plan_of plan
plan-prints ws old = rows-print (values_at (situation_of ws)) (values_length (situation_of ws)) (last - clock_of ws) (clock_of ws) old
