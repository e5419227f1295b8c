-- Measurement, ticks, the plain plan and rescue: each call has the number of the first test that holds, and a refusal leaves all that was lent.
use mathlib.Core.Path.{◌≡◌, refl, sym, ap, ◌∙◌}
use mathlib.Core.Logic.{◌≢◌}
use mathlib.Core.Bool.{Bool, true, false, cond, not, ◌&&◌}
use mathlib.Core.List.{List, [], ◌∷◌, ◌++◌}
use mathlib.Core.Option.{Option, some, none}
use Prim.Native.Nat.{ℕ, ◌+◌, ◌/◌, ◌^◌}
use lib.Dec.{leb, ltb, eqb}
use lib.ListN.{length, drop}
use borrow.Author.Tests.{eqb-true, ne_eqb}
use Rattle.wire_cbor.specs.Item.{Item, payload_of, is_some}
use Rattle.refusals.specs.Refusals.{first_of}
use Rattle.wire_output.specs.declared.Written.{Written}
use Rattle.wire_output.specs.Writing.{refused_with, writing_number, written_of, left_by}
use Rattle.device_store.specs.Zones.{any}
use Rattle.device_store.proofs.Tests.{ltb-not}
use Rattle.measurement_table.specs.Table.{rows}
use Rattle.measurement_table.specs.Cells.{Cell, rows_fit}
use Rattle.measurement_table.specs.Words.{held, marks_fit, range_number}
use Rattle.measurement_table.specs.Payload.{length_fits, cells_of, read_number, read_after}
use Rattle.ticks.specs.declared.front.Front.{Front}
use Rattle.ticks.specs.declared.front.Reading.{Reading}
use Rattle.ticks.specs.declared.words.Answer.{Answer}
use Rattle.ticks.specs.Ticks.{END, step_of, refused, accepted, moved, reading_of}
use Rattle.ticks.specs.Words.{reading_in, words_left}
use Rattle.ticks.proofs.Steps.{kept-old}
use Rattle.kernel_laws.proofs.Over.{refused-leaves}
use Rattle.plan_plain.specs.declared.Row.{Row}
use Rattle.plan_plain.specs.Records.{rows_now, records_of, plain_number, plain_answer, plain_slice}
use Rattle.kernel_laws.proofs.Agree.{same_rows}
use Rattle.rescue_walk.specs.declared.scripts.Rescued.{Rescued}
use Rattle.rescue_walk.specs.Walk.{rescued, runs}
use Rattle.rescue_walk.specs.Rescue.{number, written, answer}
use Rattle.demands.specs.Tests.{missing}
use Rattle.demands.specs.Later.{payload_tests, measured, measured_tests, ReadsMeasurement, WritesMeasurement, tick_tests, ReadsTick, plain_tests, PlansPlainly, rescue_tests, Rescues}
use Rattle.demands.proofs.FirstTests.{each, first-append, by_tests}

-- L9: MEASUREMENT
payload_first : (a : Bool) (o : Option Item) (p : Option (List Cell))
    → first_of ((a, 1) ∷ (not (is_some o), 2) ∷ (not (is_some p), 3) ∷ []) ≡ first_of ((a, 1) ∷ (missing o, 2) ∷ (missing p, 3) ∷ [])
unfolding first_of missing
payload_first a (some i) (some cs) = refl
payload_first a (some i) none = refl
payload_first a none (some cs) = refl
payload_first a none none = refl

pub reads-measurement : (s ws : List ℕ) → ReadsMeasurement s ws
reads-measurement s ws =
    record {
      numbered = by_tests (read_number s) (payload_tests s)
          (unfold read_number payload_tests in payload_first (not (length_fits s)) (payload_of s) (cells_of s)) (unfold payload_tests any in refl);
      unchanged = λ p. unfold read_after in rw (ne_eqb (read_number s) 0 p);
    }

-- a writer answers its number
pub written-number : (n : ℕ) (bytes : List ℕ) (room : ℕ) → (written_of n bytes room).number ≡ writing_number n bytes room
unfolding written_of
written-number n bytes room = go (writing_number n bytes room) (eqb (writing_number n bytes room) 0) refl
  where
    go : (w : ℕ) (b : Bool) → eqb w 0 ≡ b → (cond {A = Written} b (record { number = 0; length = length bytes }) (refused_with w)).number ≡ w
    go w true e = sym (eqb-true w 0 e)
    go w false e = refl

-- and where that is not 0 it leaves the buffer and counts nothing
pub written-nothing : (n : ℕ) (bytes out : List ℕ) → writing_number n bytes (length out) ≢ 0 → (left_by n bytes out ≡ out) × ((written_of n bytes (length out)).length ≡ 0)
unfolding left_by written_of
written-nothing n bytes out p = let e = ne_eqb (writing_number n bytes (length out)) 0 p in (rw e, rw e)

range-first : (b : Bool) → cond b 0 3 ≡ first_of ((not b, 3) ∷ [])
unfolding first_of
range-first true = refl
range-first false = refl

measured-first : (ws : List ℕ) (room : ℕ) → writing_number (range_number ws) (measured ws) room ≡ first_of (measured_tests ws room)
unfolding writing_number range_number measured_tests
measured-first ws room =
    rw (range-first (marks_fit ws 36 0 && rows_fit rows (held ws)))
    (sym (first-append ((not (marks_fit ws 36 0 && rows_fit rows (held ws)), 3) ∷ []) ((not (leb (length (measured ws)) room), 15) ∷ []) (unfold each in refl)))

pub writes_measurement : (ws out : List ℕ) → WritesMeasurement ws out
writes_measurement ws out =
    let e = written-number (range_number ws) (measured ws) (length out) in
    record {
      numbered = by_tests _ (measured_tests ws (length out)) (e ∙ measured-first ws (length out)) (unfold measured_tests any in refl);
      unchanged = λ p. written-nothing (range_number ws) (measured ws) out (λ q. p (e ∙ q));
    }

-- L10: A READING
module _ (f : Front) (k : ℕ) where
  tick_first : (reading_of f k).number ≡ first_of (tick_tests f k)
  unfolding reading_of moved refused accepted tick_tests first_of
  tick_first =
      rw (ltb-not (step_of f.last k) (2 ^ 31))
      (go f.begun (leb (2 ^ 31) (step_of f.last k)) (ltb END (f.seconds + (f.remainder + step_of f.last k) / 1000)) _ refl _ refl)
    where
      -- whatever a first and a later reading give
      go : (a b c : Bool) (later : Reading) → later.number ≡ 0 → (first : Reading) → first.number ≡ 0
          → (cond a (cond (not b) (cond c (refused f) later) (refused f)) first).number ≡ cond (a && b) 5 (cond (a && c) 5 0)
      go true true c later l first e = refl
      go true false true later l first e = refl
      go true false false later l first e = l
      go false b c later l first e = e

  pub reads-tick : ReadsTick f k
  reads-tick =
      record {
        numbered = by_tests (reading_of f k).number (tick_tests f k) tick_first (unfold tick_tests any in refl);
        unchanged = λ p. let e = refused-leaves f k p in (e.0, ap (λ (a : Answer). a.seconds) e.1);
      }

pub tick_words : (ws : List ℕ) (k : ℕ) → (reading_in ws k).number ≢ 0 → words_left ws k ≡ ws
tick_words ws k p = sym (kept-old ws (reading_in ws k) p)

-- L6: THE PLAIN PLAN
pub plans_plainly : (ws : List ℕ) (old : List Row) → PlansPlainly ws old
unfolding plain_answer plain_number plain_slice
plans_plainly ws old =
    record {
      numbered = by_tests _ (plain_tests ws (length old)) (unfold plain_tests first_of in rw (same_rows ws)) (unfold plain_tests any in refl);
      unchanged = go (ltb (length old) (length (rows_now ws))) (records_of (rows_now ws) ++ drop (length (rows_now ws)) old) (length (rows_now ws));
    }
  where
    go : (b : Bool) (new : List Row) (n : ℕ) → ◌≢◌ {A = ℕ} (cond b 15 0) 0 → (cond b old new ≡ old) × (cond b 0 n ≡ 0)
    go true new n p = (refl, refl)
    go false new n p = absurd (p refl)

-- L12: RESCUE
-- the answer has the call's number, and counts beside 0 alone
answers : (n : ℕ) (s : List ℕ) → ((answer n s).number ≡ n) × (n ≢ 0 → ((answer n s).length ≡ 0) × ((answer n s).runs ≡ 0))
unfolding answer
answers n s = go (eqb n 0) refl _ refl
  where
    go : (b : Bool) → eqb n 0 ≡ b → (x : Rescued) → x.number ≡ 0
        → ((cond b x (record { number = n; length = 0; runs = 0 })).number ≡ n)
        × (n ≢ 0 → ((cond b x (record { number = n; length = 0; runs = 0 })).length ≡ 0) × ((cond b x (record { number = n; length = 0; runs = 0 })).runs ≡ 0))
    go true e x z = let k = eqb-true n 0 e in (z ∙ sym k, λ p. absurd (p k))
    go false e x z = (refl, λ p. (refl, refl))

nothing_written : (n : ℕ) (d xs : List ℕ) → n ≢ 0 → written n d xs ≡ d
unfolding written
nothing_written n d xs p = rw (ne_eqb n 0 p)

pub rescues : (s out report : List ℕ) → Rescues s out report (number s (length out) (length report))
rescues s out report =
    let n = number s (length out) (length report) in
    let a = answers n s in
    record {
      numbered = by_tests _ (rescue_tests s (length out) (length report)) (a.0 ∙ unfold number rescue_tests first_of in refl) (unfold rescue_tests any in refl);
      unchanged = λ p. let q : n ≢ 0 = λ e. p (a.0 ∙ e) in (nothing_written n out (rescued s) q, nothing_written n report (runs s) q);
      counts = λ p. a.1 (λ e. p (a.0 ∙ e));
    }
