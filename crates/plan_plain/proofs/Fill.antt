-- The writer: what is written and what is left to write make the plan's records, and the rest of the slice stays.
use Prim.Native.Nat.{ℕ, zero, suc, ◌+◌, ◌<◌, ◌≤◌}
use mathlib.Core.Bool.{Bool, true, false, cond}
use mathlib.Core.Path.{◌≡◌, refl, ap, ◌∙◌}
use mathlib.Core.List.{List, [], ◌∷◌, ◌++◌}
use native.Mathlib.Decide.{dec_lt}
use native.Mathlib.Nat.{zero-add}
use native.Mathlib.Numerals.{add-one}
use native.Mathlib.Omega.{arith}
use lib.Dec.{ltb}
use lib.IntN.{ℤ}
use lib.ListN.{length, drop, set, length-set}
use lib.Seq.{sets, sets-eq}
use borrow.Author.Tests.{lt-ltb, le-ltb, ltb-false}
use Rattle.device_store.specs.Sizes.{end}
use Rattle.device_store.specs.Words.{clock_of}
use Rattle.device_holds.specs.Holds.{Situation, situation_of}
use Rattle.plan_plain.specs.Plain.{plain_seconds, rows_at, plain_rows, next_row}
use Rattle.plan_plain.specs.Records.{row_of, records_of, plain_number, plain_answer, plain_slice, record_at, record_after, record_no, written}
use Rattle.plan_plain.specs.declared.Row.{Row}
use Rattle.plan_plain.proofs.Onward.{onward, onward-over, onward-more, onward-next, Counted, counted_start, counted-more}

rows-length : (s : Situation) (ns : List ℕ) → length (rows_at s ns) ≡ length ns
unfolding rows_at
rows-length s [] = refl
rows-length s (n ∷ ns) = ap suc (rows-length s ns)

records_length : (rs : List (ℕ × List ℤ)) → length (records_of rs) ≡ length rs
unfolding records_of
records_length [] = refl
records_length (r ∷ rs) = ap suc (records_length rs)

-- as many rows as seconds
pub plain-length : (s : Situation) (t : ℕ) → length (plain_rows s t) ≡ length (plain_seconds s t)
unfolding plain_rows
plain-length s t = rows-length s (plain_seconds s t)

-- THE ANSWER
module _ (ws : List ℕ) (room : ℕ) where
  abbrev many : ℕ
  many = length (plain_seconds (situation_of ws) (clock_of ws))

  pub answer-full : room < many → record { number = 15; count = 0 } ≡ plain_answer ws room
  unfolding plain_answer plain_number
  answer-full h = rw (plain-length (situation_of ws) (clock_of ws), lt-ltb room many h)

  pub answer-done : (n : ℕ) → n ≡ many → n ≤ room → record { number = 0; count = n } ≡ plain_answer ws room
  unfolding plain_answer plain_number
  answer-done n e h = rw (plain-length (situation_of ws) (clock_of ws), le-ltb room many (omega arith)) (ap (λ (k : ℕ). record { number = 0; count = k }) e)

-- how the answer ends, for a search
pub ruleset answers = (answer-full, answer-done)

pub length-written : (ws : List ℕ) (k : ℕ) (ys : List Row) → length (written ws k ys) ≡ length ys
unfolding written
length-written ws zero ys = refl
length-written ws (suc k) ys = length-set (written ws k ys) k (record_no ws k) ∙ length-written ws k ys

-- the walk's steps
pub none_written : (ws : List ℕ) (ys : List Row) → ys ≡ written ws 0 ys
unfolding written
none_written ws ys = refl

pub next-written : (ws : List ℕ) (i : ℕ) (ys : List Row) → set (written ws i ys) i (record_no ws i) ≡ written ws (i + 1) ys
unfolding written
next-written ws i ys = rw (add-one i)

pub first-no : (ws : List ℕ) → record_after ws (clock_of ws) ≡ record_no ws 0
unfolding record_no
first-no ws = refl

pub next-no : (ws : List ℕ) (i : ℕ) → record_after ws (record_no ws i).second ≡ record_no ws (i + 1)
unfolding record_no
next-no ws i = rw (add-one i)

module _ (ws : List ℕ) (ys : List Row) where
  abbrev s : Situation
  s = situation_of ws

  abbrev all : List ℕ
  all = plain_seconds s (clock_of ws)

  abbrev records : List ℕ → List Row
  records ns = records_of (rows_at s ns)

  -- WRITING: k records are written, and the next is the plan's
  record Writing (k : ℕ) : Type 0 where
    counted : Counted s (clock_of ws) k (record_no ws k).second
    left : sets (written ws k ys) k (records (onward s (record_no ws k).second)) ≡ sets ys 0 (records all)
    itself : record_no ws k ≡ record_at s (record_no ws k).second

  after-itself : (t : ℕ) → record_after ws t ≡ record_at s (record_after ws t).second
  unfolding record_after row_of
  after-itself t = refl

  after-second : (t : ℕ) → (record_after ws t).second ≡ next_row s t
  unfolding record_after row_of
  after-second t = refl

  module _ (k : ℕ) (h : k < length all) (w : Writing k) where
    abbrev t : ℕ
    t = (record_no ws k).second

    low : t < end
    low =
        elim (dec_lt t end) [
          | yes l ↦ l
          | no l ↦ absurd (omega (arith, w.counted.total, ap length (onward-over s t (omega arith))))
        ]

    left_here : sets (written ws k ys) k (record_at s t ∷ records (plain_seconds s t)) ≡ sets ys 0 (records all)
    unfolding rows_at records_of
    left_here = rw (onward-more s t low) at w.left

    counted-here : Counted s (clock_of ws) (suc k) (record_after ws t).second
    counted-here = record { total = omega (arith, (counted-more s (clock_of ws) k t w.counted low (record_after ws t).second (after-second t)).total) }

    writing_more : Writing (suc k)
    unfolding record_no written
    writing_more =
        record {
          counted = counted-here;
          left =
              rw (after-second t, onward-next s t)
              (ap (λ (r : Row). sets (set (written ws k ys) k r) (suc k) (records (plain_seconds s t))) w.itself ∙ left_here);
          itself = after-itself t;
        }

  writing : (k : ℕ) → k ≤ length all → Writing k
  unfolding record_no written
  writing zero h =
      record {
        counted = counted_start s (clock_of ws) _ (after-second (clock_of ws));
        left = rw (after-second (clock_of ws), onward-next s (clock_of ws));
        itself = after-itself (clock_of ws);
      }
  writing (suc k) h = writing_more k (omega arith) (writing k (omega arith))

  -- all are written
  written_all : length all ≤ length ys → written ws (length all) ys ≡ records all ++ drop (length all) ys
  unfolding rows_at records_of
  written_all h =
      let w = writing (length all) (omega arith) in
      let e : onward s (record_no ws (length all)).second ≡ [] = none (onward s (record_no ws (length all)).second) (omega (arith, w.counted.total)) in
      let m : length (records all) ≡ length all = records_length (rows_at s all) ∙ rows-length s all in
      rw e at w.left ∙ sets-eq (records all) ys 0 (omega (arith, m)) ∙ rw (m, zero-add)
    where
      none : (l : List ℕ) → length l ≡ 0 → l ≡ []
      none [] e = refl
      none (x ∷ l) e = absurd (omega arith)

  -- the slice that the contract names: what the count says is written
  pub written-slice : (written ws (plain_answer ws (length ys)).count ys ≡ plain_slice ws ys) × ((plain_answer ws (length ys)).count ≤ length ys)
  unfolding plain_answer plain_slice written plain_rows
  written-slice = rw (rows-length s all) (go (ltb (length ys) (length all)) refl)
    where
      go : (b : Bool) → ltb (length ys) (length all) ≡ b
          → (written ws (cond b 0 (length all)) ys ≡ cond b ys (records all ++ drop (length all) ys)) × (cond b 0 (length all) ≤ length ys)
      go true e = (refl, omega arith)
      go false e = (written_all (omega (arith, ltb-false)), omega (arith, ltb-false))
