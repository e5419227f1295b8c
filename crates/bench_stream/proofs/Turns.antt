-- A record run and its answer printed, as a part of the whole script. Assumes nothing.
use Rattle.std.specs.Prelude.{Option, None, Some}
use Prim.Native.Nat.{ℕ, ◌+◌, ◌<◌, ◌≤◌}
use mathlib.Core.Path.{◌≡◌, refl, sym, ◌∙◌}
use mathlib.Core.Logic.{⊎_elim}
use mathlib.Core.Bool.{Bool, true, false}
use mathlib.Core.List.{List, [], ◌++◌, append-nil}
use native.Mathlib.Omega.{arith}
use borrow.Author.Tests.{lt-leb}
use lib.IntN.{ℤ}
use lib.ListN.{length, drop, length-append}
use lib.Seq.{drop-append-le}
use Rattle.text.specs.Pieces.{put_all, past_all}
use Rattle.wire_bytes.proofs.Order.{below}
use Rattle.bench_records.specs.Kinds.{longest}
use Rattle.bench_records.specs.Records.{record_at}
use Rattle.bench_records.specs.declared.fields.Record.{Record}
use Rattle.bench_script.specs.Runs.{step_answer, step_leaves}
use Rattle.bench_script.specs.Answers.{answer_pieces}
use Rattle.bench_script.specs.Bench.{Played, script, stopped, frame_room, rows_room, answer_room, remaining, Comes}
use Rattle.bench_script.specs.declared.calls.Stepped.{Stepped}
use Rattle.bench_script.proofs.Texts.{answer-long}
use Rattle.bench_script.proofs.Steps.{step-moves}
use Rattle.bench_script.proofs.Plays.{after, step-plays, comes_same, comes_more, comes_written}
use Rattle.bench_stream.specs.Ready.{is_record, is_told}
use Rattle.bench_stream.proofs.Whole.{answer-stays, leaves_stay}

-- what a step leaves of a longer piece is what it leaves of this one with more behind
after_longer : (us : List ℕ) (rs : List ℤ) (s more : List ℕ) (o : Option Stepped) → ((y : Stepped) → o ≡ Some y → y.next ≤ length s)
    → after us rs (s ++ more) [] o ≡ after us rs s more o
unfolding after
after_longer us rs s more (Some y) h =
    let b : drop y.next (s ++ more) ++ [] ≡ drop y.next s ++ more = append-nil (drop y.next (s ++ more)) ∙ drop-append-le y.next s more (h y refl) in
    rw b
after_longer us rs s more None h = refl

-- A STEP of what is left of s from p on, with more behind
module _ (ws s : List ℕ) (p : ℕ) (out : List ℕ) (rows : List ℤ) where
  abbrev Plays : List ℕ → Type 0
  Plays more =
      script ws (drop p s ++ more)
      ≡ after (step_leaves ws s p out rows).words (step_leaves ws s p out rows).rows s more (step_answer ws s p out rows)

  module _ (more : List ℕ) (here : p < length s) (wide : frame_room ≤ length out) (long : length rows ≡ rows_room) where
    -- enough is left, or nothing comes behind
    enough_plays : (length s < p + longest → more ≡ []) → Plays more
    enough_plays told = step-plays ws s p more here told out rows wide (omega arith)

    -- the record is whole: it is that of the longer piece, which nothing comes behind
    whole-plays : (r : Record) → record_at s p ≡ Some r → Plays more
    whole-plays r is =
        let a : drop p (s ++ more) ++ [] ≡ drop p s ++ more = append-nil (drop p (s ++ more)) ∙ drop-append-le p s more (omega arith) in
        let b = after_longer (step_leaves ws s p out rows).words (step_leaves ws s p out rows).rows s more (step_answer ws s p out rows) (λ y e. (step-moves ws s p out rows y e).1) in
        let q = step-plays ws (s ++ more) p [] (omega (arith, length-append s more)) (λ l. refl) out rows wide (omega arith) in
        rw (a, b) at (rw (answer-stays s more p r is ws out rows, leaves_stay s more p r is ws out rows) at q)

    pub told-plays : (is_told s p ≡ false → more ≡ []) → Plays more
    unfolding is_told is_record
    told-plays told = ⊎_elim (λ lt. short lt (record_at s p) refl) (λ le. enough_plays (λ lt. absurd (omega arith))) (below (length s) (p + longest))
      where
        short : length s < p + longest → (a : Option Record) → record_at s p ≡ a → Plays more
        short lt (Some r) e = whole-plays r e
        short lt None e = enough_plays (λ l. told (rw (lt-leb (p + longest) (length s) lt, e)))

module _ (ws s : List ℕ) (p : ℕ) (out : List ℕ) (rows : List ℤ) (here : p < length s) (wide : frame_room ≤ length out) (long : length rows ≡ rows_room) where
  module _ (o : Option Stepped) (e : o ≡ step_answer ws s p out rows) (us : List ℕ) (f : us ≡ (step_leaves ws s p out rows).words) where
    -- a good record: its answer is on the page
    pub turn_good : (y : Stepped) → o ≡ Some y → (rs : List ℤ) → rs ≡ (step_leaves ws s p out rows).rows → length rs ≡ rows_room
        → (page page' : List ℕ) (at at' : ℕ) → at + answer_room ≤ length page
        → (at' ≡ past_all page at (answer_pieces y.number y.count rs)) × (page' ≡ put_all page at (answer_pieces y.number y.count rs))
        → (more : List ℕ) → (is_told s p ≡ false → more ≡ [])
        → Comes page at (script ws (drop p s ++ more)) page' at' (remaining true us (drop y.next s ++ more))
    unfolding remaining after
    turn_good y g rs h l page page' at at' room w more told =
        comes_written page page' at at' (answer_pieces y.number y.count rs) (script ws (drop p s ++ more)) (script us (drop y.next s ++ more))
        (omega (arith, answer-long y.number y.count rs l)) (rw (← h, ← f, sym e ∙ g) at (told-plays ws s p out rows more here wide long told)) w

    -- a bad one: its line is what is left
    pub turn_bad : o ≡ None → (page : List ℕ) (at : ℕ) (more left : List ℕ) → (is_told s p ≡ false → more ≡ [])
        → Comes page at (script ws (drop p s ++ more)) page at (remaining false us left)
    unfolding remaining after
    turn_bad g page at more left told =
        rw (rw (← f, sym e ∙ g) at (told-plays ws s p out rows more here wide long told)) (comes_same page at (stopped us))

-- one turn more of a run from page₀ and device ws₀; a place that was bad has no turn
module _ (page₀ s more : List ℕ) (whole : Played) where
  pub turn_more : (ws page : List ℕ) (p at : ℕ) (good : Bool) → (good ≡ false → p ≡ length s) → p < length s → (t : List ℕ) (q : ℕ) (rest : Played)
      → Comes page₀ 0 whole page at (remaining good ws (drop p s ++ more))
      → Comes page at (script ws (drop p s ++ more)) t q rest → Comes page₀ 0 whole t q rest
  unfolding remaining
  turn_more ws page p at true b h t q rest x y = comes_more page₀ page t 0 at q whole (script ws (drop p s ++ more)) rest x y
  turn_more ws page p at false b h t q rest x y = absurd (omega (arith, b refl))

-- where a record is ready and cannot be told, the piece is the last
pub told_here : (last : Bool) (more : List ℕ) (b : Bool) → (last ≡ true → more ≡ []) → (last ≡ false → b ≡ true) → b ≡ false → more ≡ []
told_here true more b a t n = a refl
told_here false more b a t n = absurd (let y = t refl in let z : ◌≡◌ {A = ℕ} 0 1 = cc in omega arith)
