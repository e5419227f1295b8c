-- A record at p of a piece is the record at the front of what is left from p on, with whatever comes behind. Assumes nothing.
use Rattle.std.specs.Prelude.{Option, None, Some}
use Prim.Native.Nat.{ℕ, zero, suc, ◌+◌, ◌<◌, ◌≤◌}
use mathlib.Core.Path.{◌≡◌, refl, sym, ap, ◌∙◌}
use mathlib.Core.Logic.{⊎_elim}
use mathlib.Core.Bool.{Bool, true, false, cond, ◌&&◌}
use mathlib.Core.List.{List, [], ◌∷◌, ◌++◌, append-nil}
use native.Mathlib.Omega.{arith}
use lib.Dec.{leb, eqb}
use lib.ListN.{length, get_or, drop, length-append, length-drop}
use lib.Seq.{get_or-drop, drop-drop, drop-append-le, take-append-le}
use borrow.Author.Tests.{le-leb, lt-leb, leb-true, eqb-true}
use Rattle.wire_bytes.specs.Bytes.{number_at}
use Rattle.wire_bytes.proofs.Order.{below}
use Rattle.bench_records.specs.Kinds.{head, longest, frame_least, frame_most, kinds, right_length, right_body}
use Rattle.bench_records.specs.Records.{is_mark, fields_at, good, record_at}
use Rattle.bench_records.specs.declared.fields.Record.{Record}
use Rattle.bench_records.proofs.Scans.{both, record_within}
use Rattle.bench_script.specs.Runs.{body_of}

-- no body is longer than the longest frame
right_short : (kind n : ℕ) → right_body kind n ≡ true → n ≤ frame_most
unfolding right_body right_length
right_short kind n e = go (eqb kind 1) (eqb kind 5) (eqb kind 7) (both (leb 1 kind && leb kind kinds) _ e).1
  where
    go : (a b c : Bool) → cond a (eqb n 1) (cond b (leb frame_least n && leb n frame_most) (cond c (eqb n 2) (eqb n 0))) ≡ true → n ≤ frame_most
    go true b c h = omega (arith, eqb-true n 1 h)
    go false true c h = leb-true n frame_most (both (leb frame_least n) _ h).1
    go false false true h = omega (arith, eqb-true n 2 h)
    go false false false h = omega (arith, eqb-true n 0 h)

get_d_front : (xs ys : List ℕ) (k : ℕ) → k < length xs → get_or (xs ++ ys) k 0 ≡ get_or xs k 0
get_d_front [] ys k h = absurd (omega arith)
get_d_front (x ∷ xs) ys zero h = refl
get_d_front (x ∷ xs) ys (suc k) h = get_d_front xs ys k (omega arith)

-- the record with its body behind the fields at the front
abbrev pub moved : Record → Record
moved r = record { kind = r.kind; zone = r.zone; time = r.time; body = head; length = r.length }

abbrev pub moved_scan : Option Record → Option Record
moved_scan (Some r) = Some (moved r)
moved_scan None = None

-- s from p on has a longest record, or nothing comes behind it
module _ (s : List ℕ) (p : ℕ) (more : List ℕ) (told : length s < p + longest → more ≡ []) where
  abbrev left : List ℕ
  left = drop p s ++ more

  front-byte : (k : ℕ) → k < longest → get_or left k 0 ≡ get_or s (p + k) 0
  front-byte k h = ⊎_elim
      (λ lt. rw (told lt, append-nil (drop p s)) (get_or-drop p s k 0))
      (λ le. get_d_front (drop p s) more k (omega (arith, length-drop p s)) ∙ get_or-drop p s k 0)
      (below (length s) (p + longest))

  front-number : (w q : ℕ) → q + w ≤ longest → number_at left q w ≡ number_at s (p + q) w
  unfolding number_at
  front-number zero q h = refl
  front-number (suc w) q h =
      let e : p + (q + w) ≡ p + q + w = omega arith in
      omega (arith, front-number w q (omega arith), front-byte (q + w) (omega arith) ∙ ap (λ (k : ℕ). get_or s k 0) e)

  front-fields : fields_at left 0 ≡ moved (fields_at s p)
  unfolding fields_at
  front-fields = rw (front-byte 2 (omega arith), front-byte 3 (omega arith), front-number 4 4 (omega arith), front-number 2 8 (omega arith))

  front-mark : is_mark left 0 ≡ is_mark s p
  unfolding is_mark
  front-mark =
      let e : p + 0 ≡ p = omega arith in
      rw (front-byte 0 (omega arith), front-byte 1 (omega arith), e)

  -- it is cut in both or in neither
  front_cut : (n : ℕ) → n ≤ frame_most → leb (head + n) (length left) ≡ leb (p + head + n) (length s)
  front_cut n h =
      let l = length-append (drop p s) more in
      let d = length-drop p s in
      ⊎_elim
      (λ lt.
      let z : length more ≡ 0 = ap length (told lt) in
      ⊎_elim
      (λ cut. lt-leb (head + n) (length left) (omega arith) ∙ sym (lt-leb (p + head + n) (length s) cut))
      (λ fits. le-leb (head + n) (length left) (omega arith) ∙ sym (le-leb (p + head + n) (length s) fits))
      (below (length s) (p + head + n)))
      (λ le. le-leb (head + n) (length left) (omega arith) ∙ sym (le-leb (p + head + n) (length s) (omega arith)))
      (below (length s) (p + longest))

  front-good : (r : Record) → r.body ≡ p + head → good left 0 (moved r) ≡ good s p r
  unfolding good
  front-good r e = rw (front-mark, e) (go (right_body r.kind r.length) refl)
    where
      go : (b : Bool) → right_body r.kind r.length ≡ b
          → (is_mark s p && (b && leb (head + r.length) (length left))) ≡ (is_mark s p && (b && leb (p + head + r.length) (length s)))
      go true g = rw (front_cut r.length (right_short r.kind r.length g))
      go false g = refl

  body_at : (fields_at s p).body ≡ p + head
  unfolding fields_at
  body_at = refl

  pub front-scan : record_at left 0 ≡ moved_scan (record_at s p)
  unfolding record_at
  front-scan = rw (front-fields, front-good (fields_at s p) body_at) (go (good s p (fields_at s p)))
    where
      go : (b : Bool) → cond b (Some (moved (fields_at s p))) None ≡ moved_scan (cond b (Some (fields_at s p)) None)
      go true = refl
      go false = refl

  -- its body and its first bytes are the same, and so is what stands behind it
  module _ (r : Record) (is : record_at s p ≡ Some r) where
    within : (r.body ≡ p + head) × (r.body + r.length ≤ length s)
    within = record_within s p r is

    pub front-body : body_of left (moved r) ≡ body_of s r
    unfolding body_of
    front-body =
        let d = length-drop p s in
        let e = length-drop (p + head) s in
        let x = drop-append-le head (drop p s) more (omega (arith, within.0, within.1)) in
        rw (x, drop-drop head p s, within.0) (take-append-le r.length (drop (p + head) s) more (omega (arith, within.0, within.1)))

    pub front-first : get_or left head 0 ≡ get_or s r.body 0
    front-first = front-byte head (omega arith) ∙ ap (λ (k : ℕ). get_or s k 0) (sym within.0)

    pub front-second : get_or left (head + 1) 0 ≡ get_or s (r.body + 1) 0
    front-second =
        let e : p + (head + 1) ≡ r.body + 1 = omega (arith, within.0) in
        front-byte (head + 1) (omega arith) ∙ ap (λ (k : ℕ). get_or s k 0) e

    pub front-next : drop (head + r.length) left ≡ drop (r.body + r.length) s ++ more
    front-next =
        let d = length-drop p s in
        let e : p + (head + r.length) ≡ r.body + r.length = omega (arith, within.0) in
        drop-append-le (head + r.length) (drop p s) more (omega (arith, within.0, within.1))
        ∙ ap (λ (l : List ℕ). l ++ more) (drop-drop (head + r.length) p s ∙ ap (λ (k : ℕ). drop k s) e)
