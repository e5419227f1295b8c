-- What a script plays, from record to record, and a step as one record of it. Assumes nothing.
use Rattle.std.specs.Prelude.{Option, None, Some}
use Prim.Native.Nat.{ℕ, zero, suc, ◌+◌, ◌<◌, ◌≤◌}
use mathlib.Core.Path.{◌≡◌, refl, sym, ap, ◌∙◌}
use mathlib.Core.Bool.{true, false}
use mathlib.Core.List.{List, [], ◌∷◌, ◌++◌, append_assoc}
use native.Mathlib.Omega.{arith}
use lib.IntN.{ℤ}
use lib.ListN.{length, get_or, take, drop, length-append, length-drop}
use Rattle.text.specs.Text.{decimal}
use Rattle.text.specs.Pieces.{put_all, past_all, joined}
use Rattle.device_calls.specs.Calls.{join_number, join_after, leave_number, leave_after, link_number, link_after, override_number, override_after, clear_number, clear_after, move_number, move_after}
use Rattle.plan.specs.Plan.{numbers_of, rows_from, plan_answer, front, plan_slice}
use Rattle.kernel.specs.Frame.{frame_number, frame_answer, frame_out}
use Rattle.bench_records.specs.Kinds.{head, longest}
use Rattle.bench_records.specs.Records.{record_at}
use Rattle.bench_records.specs.declared.fields.Record.{Record}
use Rattle.bench_script.specs.declared.calls.Stepped.{Stepped}
use Rattle.bench_records.proofs.Scans.{record_within}
use Rattle.bench_script.specs.Runs.{Left, alone, call_of, call_leaves, body_of, record_leaves, scan_leaves, step_leaves, step_from, step_answer}
use Rattle.bench_script.specs.Answers.{table_pieces, answer_pieces}
use Rattle.bench_script.specs.Bench.{Answered, numbered, answered, record_answered, plan_pieces, answered_pieces, Played, stopped, behind, played_from, played, script, frame_room, rows_room, Comes}
use Rattle.bench_script.specs.Laws.{PlayedBound}
use Rattle.bench_script.specs.declared.calls.Call.{Call}
use Rattle.bench_script.proofs.Rooms.{frame-number, frame-after, plan-fits, plan-prints}
use Rattle.bench_script.proofs.Texts.{joined-more, pieces_front, pieces_on_page}
use Rattle.bench_script.proofs.Fronts.{moved, moved_scan, front-scan, front-body, front-first, front-second, front-next}

-- A CALL, with the answer printed from what it leaves in its room
abbrev printed_of : Left → List (List ℕ)
printed_of x = answer_pieces x.ran.number x.ran.count x.rows

abbrev Agree : Left → Answered → Type 0
Agree x a = (printed_of x ≡ answered_pieces a) × (x.words ≡ a.words)

-- a call that has a number alone
alone-agrees : (n : ℕ) (ws out : List ℕ) (rows : List ℤ) → Agree (alone n ws out rows) (numbered n ws)
unfolding alone numbered answer_pieces table_pieces answered_pieces plan_pieces
alone-agrees n ws out rows = (refl, refl)

alone-as : (n m : ℕ) (ws us out : List ℕ) (rows : List ℤ) → n ≡ m → ws ≡ us → Agree (alone n ws out rows) (numbered m us)
alone-as n m ws us out rows e f = rw (e, f) (alone-agrees m us out rows)

module _ (ws : List ℕ) (t : ℕ) (bytes out : List ℕ) (rows : List ℤ) (wide : frame_room ≤ length out) (long : rows_room ≤ length rows) where
  framed-number : (z room : ℕ) → (frame_answer ws z t bytes room).number ≡ frame_number ws z t bytes room
  unfolding frame_answer frame_number
  framed-number z room = refl

  frame-agrees : (z : ℕ) → Agree (call_leaves ws t bytes out rows (Call.Frame z)) (answered ws t bytes (Call.Frame z))
  unfolding call_leaves answered
  frame-agrees z =
      alone-as _ _ _ _ (frame_out ws z t bytes out) rows (framed-number z (length out) ∙ frame-number ws z t bytes (length out) wide) (frame-after ws z t bytes (length out) wide)

  plan-agrees : Agree (call_leaves ws t bytes out rows Call.Plan) (answered ws t bytes Call.Plan)
  unfolding call_leaves answered answer_pieces answered_pieces plan_answer plan_slice front
  plan-agrees =
      let old = drop (length (numbers_of (rows_from ws))) rows in
      rw (plan-fits ws (length rows) long) (ap (λ (l : List (List ℕ)). decimal 0 ∷ (10 ∷ []) ∷ l) (plan-prints ws old), refl)

  call-agrees : (c : Call) → Agree (call_leaves ws t bytes out rows c) (answered ws t bytes c)
  unfolding call_leaves answered
  call-agrees (Call.Join z k) = alone-agrees (join_number ws z k t) (join_after ws z k t) out rows
  call-agrees (Call.Leave z) = alone-agrees (leave_number ws z t) (leave_after ws z t) out rows
  call-agrees (Call.Lost z) = alone-agrees (link_number ws z false t) (link_after ws z false t) out rows
  call-agrees (Call.Back z) = alone-agrees (link_number ws z true t) (link_after ws z true t) out rows
  call-agrees (Call.Frame z) = frame-agrees z
  call-agrees Call.Plan = plan-agrees
  call-agrees (Call.Override reason d) = alone-agrees (override_number ws reason d t) (override_after ws reason d t) out rows
  call-agrees Call.Clear = alone-agrees (clear_number ws t) (clear_after ws t) out rows
  call-agrees Call.Move = alone-agrees (move_number ws t) (move_after ws t) out rows
  call-agrees Call.Ask = alone-agrees 0 ws out rows

-- A SCRIPT: a larger bound changes nothing
others-alike : (f g : List ℕ → List ℕ → Played) (ws s : List ℕ) (x : Option Record)
    → ((r : Record) → x ≡ Some r → (us : List ℕ) → f us (drop (r.body + r.length) s) ≡ g us (drop (r.body + r.length) s))
    → played_from f ws s x ≡ played_from g ws s x
unfolding played_from
others-alike f g ws s (Some r) h = ap (behind (answered_pieces (record_answered ws s r))) (h r refl (record_answered ws s r).words)
others-alike f g ws s None h = refl

-- what stands behind the record in front is shorter
shorter : (s : List ℕ) (r : Record) → record_at s 0 ≡ Some r → length (drop (r.body + r.length) s) + head ≤ length s
shorter s r e =
    let w = record_within s 0 r e in
    omega (arith, w.0, w.1, length-drop (r.body + r.length) s)

pub played-bound : PlayedBound
unfolding played
played-bound zero zero ws s h k = refl
played-bound zero (suc m) ws [] h k = refl
played-bound zero (suc m) ws (b ∷ s) h k = absurd (omega arith)
played-bound (suc n) zero ws [] h k = refl
played-bound (suc n) zero ws (b ∷ s) h k = absurd (omega arith)
played-bound (suc n) (suc m) ws [] h k = refl
played-bound (suc n) (suc m) ws (b ∷ s) h k =
    others-alike (played n) (played m) ws (b ∷ s) (record_at (b ∷ s) 0)
    (λ r e us. let l = shorter (b ∷ s) r e in played-bound n m us (drop (r.body + r.length) (b ∷ s)) (omega arith) (omega arith))

-- the record in front, then the script behind it
script-front : (ws s : List ℕ) → 0 < length s → script ws s ≡ played_from script ws s (record_at s 0)
unfolding script played
script-front ws [] h = absurd (omega arith)
script-front ws (b ∷ s) h =
    others-alike (played (length s)) script ws (b ∷ s) (record_at (b ∷ s) 0)
    (λ r e us. let l = shorter (b ∷ s) r e in played-bound (length s) (length (drop (r.body + r.length) (b ∷ s))) us (drop (r.body + r.length) (b ∷ s)) (omega arith) (omega arith))

-- what is left to play behind a step that left these words and rows: its answer, then the records behind it
unfoldable pub after : List ℕ → List ℤ → List ℕ → List ℕ → Option Stepped → Played
after ws rows s more (Some y) = behind (answer_pieces y.number y.count rows) (script ws (drop y.next s ++ more))
after ws rows s more None = stopped ws

-- ONE PIECE: what is left of it from p on, with more behind
module _ (ws s : List ℕ) (p : ℕ) (more : List ℕ) (here : p < length s) (told : length s < p + longest → more ≡ []) where
  some_left : 0 < length (drop p s ++ more)
  some_left = omega (arith, length-append (drop p s) more, length-drop p s)

  front-answered : (r : Record) → record_at s p ≡ Some r → record_answered ws (drop p s ++ more) (moved r) ≡ record_answered ws s r
  unfolding record_answered
  front-answered r e = rw (front-body s p more told r e, front-first s p more told r e, front-second s p more told r e)

  script-good : (r : Record) → record_at s p ≡ Some r
      → script ws (drop p s ++ more) ≡ behind (answered_pieces (record_answered ws s r)) (script (record_answered ws s r).words (drop (r.body + r.length) s ++ more))
  unfolding played_from
  script-good r e =
      script-front ws (drop p s ++ more) some_left
      ∙ ap (played_from script ws (drop p s ++ more)) (front-scan s p more told ∙ ap moved_scan e)
      ∙ rw (front-answered r e, front-next s p more told r e)

  -- the same by the record's call
  good-as : (r : Record) → record_at s p ≡ Some r → (a : Answered) → a ≡ answered ws r.time (body_of s r) (call_of r.kind r.zone (get_or s r.body 0) (get_or s (r.body + 1) 0))
      → script ws (drop p s ++ more) ≡ behind (answered_pieces a) (script a.words (drop (r.body + r.length) s ++ more))
  unfolding record_answered
  good-as r e a k = rw k (script-good r e)

  script-bad : record_at s p ≡ None → script ws (drop p s ++ more) ≡ stopped ws
  unfolding played_from
  script-bad e =
      script-front ws (drop p s ++ more) some_left
      ∙ ap (played_from script ws (drop p s ++ more)) (front-scan s p more told ∙ ap moved_scan e)

  -- a step plays the record at p, and what it leaves is what is left to play
  module _ (out : List ℕ) (rows : List ℤ) (wide : frame_room ≤ length out) (long : rows_room ≤ length rows) where
    abbrev Turn : Option Record → Type 0
    Turn a =
        script ws (drop p s ++ more)
        ≡ after (scan_leaves ws s out rows a).words (scan_leaves ws s out rows a).rows s more (step_from (scan_leaves ws s out rows a).ran a)

    turn : (a : Option Record) → record_at s p ≡ a → Turn a
    unfolding after step_from scan_leaves record_leaves alone
    turn (Some r) e =
        let w = call-agrees ws r.time (body_of s r) out rows wide long (call_of r.kind r.zone (get_or s r.body 0) (get_or s (r.body + 1) 0)) in
        rw (w.0, w.1) (good-as r e _ refl)
    turn None e = script-bad e

    pub step-plays : script ws (drop p s ++ more)
        ≡ after (step_leaves ws s p out rows).words (step_leaves ws s p out rows).rows s more (step_answer ws s p out rows)
    unfolding step_answer step_leaves
    step-plays = turn (record_at s p) refl

-- PAGES
pub comes_same : (s : List ℕ) (p : ℕ) (x : Played) → Comes s p x s p x
comes_same s p x = record { text = refl; within = λ h. h; device = refl }

pub comes_more : (s t u : List ℕ) (p q k : ℕ) (x y z : Played) → Comes s p x t q y → Comes t q y u k z → Comes s p x u k z
comes_more s t u p q k x y z a b = record { text = b.text ∙ a.text; within = λ h. b.within (a.within h); device = b.device ∙ a.device }

-- pieces more are on the page
pub comes_written : (s t : List ℕ) (p q : ℕ) (xs : List (List ℕ)) (x y : Played) → p + length (joined xs) ≤ length s
    → x ≡ behind xs y → (q ≡ past_all s p xs) × (t ≡ put_all s p xs) → Comes s p x t q y
unfolding behind
comes_written s t p q xs x y room e w =
    rw e (record {
      text =
          ap (λ (l : List ℕ). l ++ joined y.pieces) (pieces_front s t p q xs room w)
          ∙ append_assoc (take p s) (joined xs) (joined y.pieces)
          ∙ ap (λ (l : List ℕ). take p s ++ l) (sym (joined-more xs y.pieces));
      within = λ h. pieces_on_page s t p q xs w h;
      device = refl;
    })
