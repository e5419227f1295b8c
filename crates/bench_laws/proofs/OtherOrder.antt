-- A record is read alike whatever stands behind it, so that two frames in a script are the two frames of the law.
use Rattle.std.specs.Prelude.{None, Some}
use Prim.Native.Nat.{ℕ, zero, suc, ◌+◌, ◌<◌, ◌≤◌}
use mathlib.Core.Bool.{Bool, true, false, cond}
use mathlib.Core.Path.{◌≡◌, refl, sym, ap, ◌∙◌}
use mathlib.Core.List.{List, [], ◌∷◌, ◌++◌}
use native.Mathlib.Omega.{arith}
use borrow.Author.Tests.{le-leb}
use lib.ListN.{length, get_or, drop, length-append, length-drop, get_or-append}
use lib.Seq.{drop-append-le, take-append-le, drop-append_seam}
use Rattle.wire_bytes.specs.Bytes.{number_at}
use Rattle.wire_prefix.specs.Prefix.{most_frame}
use Rattle.bench_records.specs.Kinds.{head, right_body}
use Rattle.bench_records.specs.Records.{is_mark, fields_at, good, record_at}
use Rattle.bench_records.specs.declared.fields.Record.{Record}
use Rattle.bench_records.proofs.Scans.{both, record_within}
use Rattle.bench_script.specs.Runs.{call_of, body_of}
use Rattle.bench_script.specs.Bench.{Answered, numbered, answered, record_answered, plan_pieces, answered_pieces, behind, played_from, played, script}
use Rattle.bench_script.specs.declared.calls.Call.{Call}
use Rattle.bench_script.proofs.Plays.{played-bound}
use Rattle.bench_script.proofs.Rooms.{frame-number, frame-after}
use Rattle.kernel_laws.specs.Sent.{Sent, sent_number}
use Rattle.kernel_laws.specs.Sent as sent
use Rattle.kernel_laws.proofs.EitherWay.{any-two}
use Rattle.bench_laws.specs.OtherOrder.{IsFrame, line, OtherOrder}

-- A RECORD with more behind it
module _ (a x : List ℕ) where
  byte : (k : ℕ) → k < length a → get_or (a ++ x) k 0 ≡ get_or a k 0
  byte k h = get_or-append a x 0 k h

  number : (w p : ℕ) → p + w ≤ length a → number_at (a ++ x) p w ≡ number_at a p w
  unfolding number_at
  number zero p h = refl
  number (suc w) p h = rw (number w p (omega arith), byte (p + w) (omega arith))

  fields : head ≤ length a → fields_at (a ++ x) 0 ≡ fields_at a 0
  unfolding fields_at
  fields h = rw (byte 2 (omega arith), byte 3 (omega arith), number 4 4 (omega arith), number 2 8 (omega arith))

  mark : head ≤ length a → is_mark (a ++ x) 0 ≡ is_mark a 0
  unfolding is_mark
  mark h = rw (byte 0 (omega arith), byte 1 (omega arith))

never : {X : Type 0} → ◌≡◌ {A = ℕ} 0 1 → X
never z = absurd (omega arith)

scanned : (b : Bool) (q r : Record) → cond b (Some q) None ≡ Some r → (b ≡ true) × (q ≡ r)
scanned true q r e = (refl, cc)
scanned false q r e = never (cc)

module _ (a x : List ℕ) (r : Record) (f : IsFrame a r) where
  within : (r.body ≡ 0 + head) × (r.body + r.length ≤ length a)
  within = record_within a 0 r f.read

  long : head ≤ length a
  long = omega (arith, within.0, within.1)

  good-read : (good a 0 (fields_at a 0) ≡ true) × (fields_at a 0 ≡ r)
  unfolding record_at
  good-read = scanned (good a 0 (fields_at a 0)) (fields_at a 0) r f.read

  good_more : good (a ++ x) 0 r ≡ true
  unfolding good
  good_more =
      let g : good a 0 r ≡ true = rw good-read.1 at good-read.0 in
      let m = both (is_mark a 0) _ g in
      let k = both (right_body r.kind r.length) _ m.1 in
      rw (mark a x long, m.0, k.0) (le-leb (r.body + r.length) (length (a ++ x)) (omega (arith, within.1, length-append a x)))

  read_more : record_at (a ++ x) 0 ≡ Some r
  unfolding record_at
  read_more = rw (fields a x long, good-read.1, good_more)

  body_more : body_of (a ++ x) r ≡ body_of a r
  unfolding body_of
  body_more =
      let d = length-drop r.body a in
      rw (drop-append-le r.body a x (omega (arith, within.1)))
      (take-append-le r.length (drop r.body a) x (omega (arith, within.1)))

  next_more : drop (r.body + r.length) (a ++ x) ≡ x
  next_more = rw f.whole (drop-append_seam a x)

  frame-call : (ws : List ℕ) → record_answered ws (a ++ x) r ≡ answered ws r.time (body_of a r) (Call.Frame r.zone)
  unfolding record_answered call_of
  frame-call ws = rw (body_more, f.kind)

-- A FRAME'S ANSWER on the bench is that of the frame call with room
abbrev lent : ℕ → List ℕ → Sent
lent z bytes = record { zone = z; bytes = bytes; room = most_frame }

with_room : (ws : List ℕ) (z t : ℕ) (bytes : List ℕ)
    → answered ws t bytes (Call.Frame z) ≡ numbered (sent_number ws t (lent z bytes)) (sent.behind ws t (lent z bytes))
unfolding answered
with_room ws z t bytes = rw (frame-number ws z t bytes most_frame (omega arith), frame-after ws z t bytes most_frame (omega arith))

-- THE FIRST RECORD of a script, and then the script behind it
script-first : (ws s : List ℕ) (r : Record) → record_at s 0 ≡ Some r → 0 < length s
    → script ws s ≡ behind (answered_pieces (record_answered ws s r)) (script (record_answered ws s r).words (drop (r.body + r.length) s))
unfolding script played played_from
script-first ws [] r e h = absurd (omega arith)
script-first ws (b ∷ s) r e h =
    let w = record_within (b ∷ s) 0 r e in
    let rest = drop (r.body + r.length) (b ∷ s) in
    let l = length-drop (r.body + r.length) (b ∷ s) in
    ap (played_from (played (length s)) ws (b ∷ s)) e
    ∙ ap (behind (answered_pieces (record_answered ws (b ∷ s) r)))
    (played-bound (length s) (length rest) (record_answered ws (b ∷ s) r).words rest (omega (arith, w.0, w.1, l)) (omega arith))

one_line : (n : ℕ) (us : List ℕ) → answered_pieces (numbered n us) ≡ line n
unfolding answered_pieces numbered plan_pieces
one_line n us = refl

left_words : (n : ℕ) (us : List ℕ) → (numbered n us).words ≡ us
unfolding numbered
left_words n us = refl

frame-first : (ws a x : List ℕ) (r : Record) (t : ℕ) → IsFrame a r → r.time ≡ t
    → script ws (a ++ x) ≡ behind (line (sent_number ws t (lent r.zone (body_of a r)))) (script (sent.behind ws t (lent r.zone (body_of a r))) x)
frame-first ws a x r t f e =
    let n = sent_number ws t (lent r.zone (body_of a r)) in
    let us = sent.behind ws t (lent r.zone (body_of a r)) in
    let l = length-append a x in
    let c = frame-call a x r f ws ∙ ap (λ (k : ℕ). answered ws k (body_of a r) (Call.Frame r.zone)) e ∙ with_room ws r.zone t (body_of a r) in
    script-first ws (a ++ x) r (read_more a x r f) (omega (arith, long a x r f))
    ∙ ap (λ (y : Answered). behind (answered_pieces y) (script y.words (drop (r.body + r.length) (a ++ x)))) c
    ∙ ap (λ (y : List ℕ). behind (answered_pieces (numbered n us)) (script (numbered n us).words y)) (next_more a x r f)
    ∙ ap (λ (p : List (List ℕ)). behind p (script (numbered n us).words x)) (one_line n us)
    ∙ ap (λ (vs : List ℕ). behind (line n) (script vs x)) (left_words n us)

pub other_order : OtherOrder
other_order ws a b s q r size p o apart same =
    let f = lent q.zone (body_of a q) in
    let g = lent r.zone (body_of b r) in
    let t = q.time in
    let two = any-two ws t f g size apart (omega arith) (omega arith) in
    record {
      one = sent_number ws t f;
      other = sent_number ws t g;
      rest = script (sent.behind (sent.behind ws t f) t g) s;
      first =
          frame-first ws a (b ++ s) q t p refl
          ∙ ap (behind (line (sent_number ws t f))) (frame-first (sent.behind ws t f) b s r t o (sym same))
          ∙ ap (λ (n : ℕ). behind (line (sent_number ws t f)) (behind (line n) (script (sent.behind (sent.behind ws t f) t g) s))) two.second;
      second =
          frame-first ws b (a ++ s) r t o (sym same)
          ∙ ap (behind (line (sent_number ws t g))) (frame-first (sent.behind ws t g) a s q t p refl)
          ∙ ap (λ (n : ℕ). behind (line (sent_number ws t g)) (behind (line n) (script (sent.behind (sent.behind ws t g) t f) s))) (sym two.first)
          ∙ ap (λ (us : List ℕ). behind (line (sent_number ws t g)) (behind (line (sent_number ws t f)) (script us s))) (sym two.states);
    }
