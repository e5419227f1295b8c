-- The bench reads record after record: each copied one stands in front of what is left, and behind the last is nothing. Assumes nothing.
use Rattle.std.specs.Prelude.{Option, None, Some}
use Prim.Native.Nat.{ℕ, zero, suc, ◌+◌, ◌%◌, ◌/◌, ◌<◌}
use mathlib.Core.Path.{◌≡◌, refl, sym, ap, ◌∙◌}
use mathlib.Core.Bool.{Bool, true, false, ◌&&◌}
use mathlib.Core.List.{List, [], ◌∷◌, ◌++◌}
use native.Mathlib.Omega.{arith}
use lib.IntN.{ℤ, pos, negsuc}
use lib.ListN.{length, take, drop, length-drop}
use lib.Seq.{length-take-le, drop_at}
use lib.Dec.{ltb}
use borrow.Author.Tests.{lt-ltb}
use Rattle.text.specs.Text.{digits, width_in, decimal}
use Rattle.text.specs.Pieces as texts
use Rattle.bench_records.specs.Kinds.{head}
use Rattle.bench_records.specs.Records.{record_at}
use Rattle.bench_records.specs.declared.fields.Record.{Record}
use Rattle.bench_records.proofs.Scans.{record_within}
use Rattle.device_calls.specs.Start.{start_after}
use Rattle.bench_script.specs.Device.{bench_settings}
use Rattle.bench_script.specs.Answers.{cell, row_pieces}
use Rattle.bench_script.specs.Bench.{Answered, record_answered, plan_pieces, answered_pieces, Played, ended, behind, played_from, played, script, bench_text}
use Rattle.bench_script.proofs.Texts.{joined-more}
use Rattle.bench_script.proofs.Plays.{played-bound}
use Rattle.rescue_walk.specs.Walk.{scan_len, record_len, Piece, copied, passed, pass, kept, rescued}
use Rattle.rescue_walk.proofs.Begins.{found, stays}
use Rattle.rescue_walk.proofs.Rooms.{kept-pass}
use Rattle.rescue_walk.proofs.Walks.{Walk, ended as over, skips, gives, walks}
use Rattle.bench_laws.specs.Answers.{copies, answers_pieces, Answers, letterless}
use Rattle.bench_laws.specs.Laws.{BenchReads, NeverBad}

-- the record in front, then the script behind it
script-front : (ws s : List ℕ) (r : Record) → record_at s 0 ≡ Some r
    → script ws s ≡ behind (answered_pieces (record_answered ws s r)) (script (record_answered ws s r).words (drop (r.body + r.length) s))
unfolding script played played_from
script-front ws [] r e = absurd (let w = record_within [] 0 r e in omega (arith, w.0, w.1))
script-front ws (b ∷ s) r e =
    let w = record_within (b ∷ s) 0 r e in
    let d = length-drop (r.body + r.length) (b ∷ s) in
    let us = (record_answered ws (b ∷ s) r).words in
    let k = played-bound (length s) (length (drop (r.body + r.length) (b ∷ s))) us (drop (r.body + r.length) (b ∷ s)) (omega (arith, w.0, w.1)) (omega arith) in
    rw e (ap (behind (answered_pieces (record_answered ws (b ∷ s) r))) k)

script-none : (ws : List ℕ) → (script ws []).pieces ≡ []
unfolding script played ended
script-none ws = refl

no_answers : (ws : List ℕ) → Answers ws [] 0
unfolding answers_pieces
no_answers ws = record { answers = []; many = refl; text = script-none ws }

one_more : (ws s : List ℕ) (r : Record) (n : ℕ) → record_at s 0 ≡ Some r
    → Answers (record_answered ws s r).words (drop (r.body + r.length) s) n → Answers ws s (suc n)
unfolding answers_pieces behind
one_more ws s r n e k =
    record {
      answers = record_answered ws s r ∷ k.answers;
      many = ap suc k.many;
      text = ap (λ (p : Played). p.pieces) (script-front ws s r e) ∙ ap (λ (l : List (List ℕ)). answered_pieces (record_answered ws s r) ++ l) k.text;
    }

-- a record's bytes, and what stands behind them
scan_front : (u v : List ℕ) (n : ℕ) (x : Option Record) → record_at u 0 ≡ x → 0 < scan_len x → drop (scan_len x) u ≡ v
    → ((ws : List ℕ) → Answers ws v n) → (ws : List ℕ) → Answers ws u (suc n)
unfolding scan_len
scan_front u v n (Some r) e l d k ws =
    let w = record_within u 0 r e in
    let b : r.body + r.length ≡ head + r.length = omega (arith, w.0) in
    one_more ws u r n e (rw (b, d) (k (record_answered ws u r).words))
scan_front u v n None e l d k ws = absurd (omega arith)

len_front : (u v : List ℕ) (n : ℕ) → 0 < record_len u → drop (record_len u) u ≡ v → ((ws : List ℕ) → Answers ws v n) → (ws : List ℕ) → Answers ws u (suc n)
unfolding record_len
len_front u v n = scan_front u v n (record_at u 0) refl

front : (s v : List ℕ) (n : ℕ) → 0 < record_len s → ((ws : List ℕ) → Answers ws v n) → (ws : List ℕ) → Answers ws (take (record_len s) s ++ v) (suc n)
front s v n p k =
    let u = take (record_len s) s ++ v in
    let f = found s p in
    let e = stays s v p in
    let d : drop (record_len u) u ≡ v = drop_at (take (record_len s) s) v _ (length-take-le (record_len s) s f.1 ∙ sym e) in
    len_front u v n (omega arith) d k

copies-pass : (x : ℕ) (ps : List Piece) → copies (pass x ps) ≡ copies ps
unfolding copies pass
copies-pass x [] = refl
copies-pass x (copied r ∷ ps) = refl
copies-pass x (passed r ∷ ps) = refl

walk-answers : {s : List ℕ} {ps : List Piece} → Walk s ps → (ws : List ℕ) → Answers ws (kept ps) (copies ps)
unfolding kept copies
walk-answers over ws = no_answers ws
walk-answers (skips {x} {s} {ps} e w) ws = rw (kept-pass x ps, copies-pass x ps) (walk-answers w ws)
walk-answers (gives {s} {ps} p w) ws = front s (kept ps) (copies ps) p (λ us. walk-answers w us) ws

pub bench-reads : BenchReads
unfolding rescued
bench-reads ws s = walk-answers (walks s) ws

-- answers have no letter
less_more : (s t : List ℕ) → letterless s ≡ true → letterless t ≡ true → letterless (s ++ t) ≡ true
unfolding letterless
less_more [] t a b = b
less_more (x ∷ s) t a b = go (ltb x 58) (letterless s) a (less_more s t)
  where
    go : (p q : Bool) → p && q ≡ true → (q ≡ true → letterless t ≡ true → letterless (s ++ t) ≡ true) → p && letterless (s ++ t) ≡ true
    go true q e h = h e b
    go false q e h = e

less_digits : (w n : ℕ) → letterless (digits w n) ≡ true
unfolding digits letterless
less_digits zero n = refl
less_digits (suc w) n = less_more (digits w (n / 10)) _ (less_digits w (n / 10)) (rw (lt-ltb (48 + n % 10) 58 (omega arith)))

less_decimal : (n : ℕ) → letterless (decimal n) ≡ true
unfolding decimal
less_decimal n = less_digits (width_in 19 n) n

less_cell : (n : ℤ) → letterless (cell n) ≡ true
unfolding cell letterless
less_cell (pos n) = less_decimal n
less_cell (negsuc n) = refl

abbrev Less : List (List ℕ) → Type 0
Less xs = letterless (texts.joined xs) ≡ true

less_first : (x : List ℕ) (xs : List (List ℕ)) → letterless x ≡ true → Less xs → Less (x ∷ xs)
unfolding texts.joined
less_first x xs a b = less_more x (texts.joined xs) a b

less_none : Less []
unfolding texts.joined letterless
less_none = refl

less_both : (xs ys : List (List ℕ)) → Less xs → Less ys → Less (xs ++ ys)
less_both xs ys a b = rw (joined-more xs ys) (less_more (texts.joined xs) (texts.joined ys) a b)

less_end : Less ((10 ∷ []) ∷ [])
unfolding texts.joined letterless
less_end = refl

less_space : letterless (32 ∷ []) ≡ true
unfolding letterless
less_space = refl

less_line : letterless (10 ∷ []) ≡ true
unfolding letterless
less_line = refl

less_row : (xs : List ℤ) → Less (row_pieces xs)
unfolding row_pieces
less_row [] = less_none
less_row (x ∷ []) = less_first (cell x) _ (less_cell x) less_end
less_row (x ∷ y ∷ xs) = less_first (cell x) _ (less_cell x) (less_first (32 ∷ []) _ less_space (less_row (y ∷ xs)))

less_plan : (rs : List (ℕ × List ℤ)) → Less (plan_pieces rs)
unfolding plan_pieces
less_plan [] = less_none
less_plan (r ∷ rs) = less_both (row_pieces (pos r.0 ∷ r.1)) (plan_pieces rs) (less_row (pos r.0 ∷ r.1)) (less_plan rs)

less_answered : (a : Answered) → Less (answered_pieces a)
unfolding answered_pieces
less_answered a = less_first (decimal a.number) _ (less_decimal a.number) (less_first (10 ∷ []) _ less_line (less_plan a.rows))

less_answers : (all : List Answered) → Less (answers_pieces all)
unfolding answers_pieces
less_answers [] = less_none
less_answers (a ∷ rest) = less_both (answered_pieces a) (answers_pieces rest) (less_answered a) (less_answers rest)

pub never_bad : NeverBad
unfolding bench_text
never_bad s =
    let k = bench-reads (start_after bench_settings) s in
    ap (λ (xs : List (List ℕ)). letterless (texts.joined xs)) k.text ∙ less_answers k.answers
